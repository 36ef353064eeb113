use Rattle.std.proofs.Common.{rules, FitsSigned, arith}
use Rattle.std.specs.Int.{w128}
use Rattle.std.proofs.lemmas.Int.{ints, to_z-of_z}
use Rattle.std.proofs.lemmas.Option.{IfSome_then}
use Rattle.linear.specs.Bounded.{numbered}
use Rattle.linear.proofs.QueryLemmas.{least_up, least_down}
use Rattle.linear.proofs.bounds.least_term.Goals as goal

pub returns-in_ok-bound : goal.returns-in_ok-bound
returns-in_ok-bound c =
    let f : FitsSigned w128 c.in_ok-bound.bound = search rules in
    let h = rw (to_z-of_z w128 c.args.coefficient c.ranges.coefficient, to_z-of_z w128 c.in_ok-bound.bound f) at c.product.ensures in
    IfSome_then c.product.result h (λ n e. least_up (numbered 0 c.args.bounds.now) c.args.coefficient c.in_ok-bound.bound n c.args.symbol (omega (arith, ints)) c.in_ok-bound.ensures e)

pub returns-in_ok-bound-2 : goal.returns-in_ok-bound-2
returns-in_ok-bound-2 c =
    let f : FitsSigned w128 c.in_ok-bound-2.bound = search rules in
    let h = rw (to_z-of_z w128 c.args.coefficient c.ranges.coefficient, to_z-of_z w128 c.in_ok-bound-2.bound f) at c.product-else-coefficient-gt0.ensures in
    IfSome_then c.product-else-coefficient-gt0.result h (λ n e. least_down (numbered 0 c.args.bounds.now) c.args.coefficient c.in_ok-bound-2.bound n c.args.symbol (omega (arith, ints))
    c.in_ok-bound-2.ensures e)
