use Rattle.std.proofs.Common.{rules, FitsSigned}
use Rattle.std.specs.Int.{w128}
use Rattle.std.proofs.lemmas.Int.{to_z-of_z}
use Rattle.std.proofs.lemmas.Option.{IfSome_then}
use Rattle.linear.specs.Bounded.{numbered}
use Rattle.linear.proofs.ChainLemmas.{terms_alone}
use Rattle.linear.proofs.chains.least_alone.Goals as goal

pub returns : goal.returns
returns c =
    let f : FitsSigned w128 c.in_ok-bound.bound = search rules in
    let s = rw (to_z-of_z w128 c.args.constant c.ranges.constant, to_z-of_z w128 c.in_ok-bound.bound f) at c.sum.ensures in
    IfSome_then c.sum.result s (λ n e. terms_alone (numbered 0 c.args.bounds.now) c.args.constant c.args.terms.now c.in_ok-bound.bound n c.in_ok-bound.ensures e)
