use Rattle.std.proofs.Common.{rules, FitsSigned}
use Rattle.std.specs.Int.{w128}
use Rattle.std.proofs.lemmas.Int.{to_z-of_z}
use Rattle.std.proofs.lemmas.Option.{IfSome_then}
use Rattle.linear.specs.Bounded.{numbered}
use Rattle.linear.proofs.QueryLemmas.{taken_out}
use Rattle.linear.proofs.bounds.least_without.Goals as goal

pub returns : goal.returns
returns c =
    let fs : FitsSigned w128 c.in_ok-s.s = search rules in
    let fn : FitsSigned w128 c.in_ok-n.n = search rules in
    let e = rw (to_z-of_z w128 c.args.scale c.ranges.scale, to_z-of_z w128 c.args.factor c.ranges.factor) at c.in_ok-s.ensures in
    let h = rw (to_z-of_z w128 c.in_ok-s.s fs, to_z-of_z w128 c.args.fact_factor c.ranges.fact_factor) at c.in_ok-n.ensures in
    let k = rw (to_z-of_z w128 c.in_ok-n.n fn, to_z-of_z w128 c.args.scale c.ranges.scale) at c.rounded_up.ensures in
    IfSome_then c.rounded_up.result k (λ z g. taken_out (numbered 0 c.args.bounds.now) c.args.factor c.args.expression.now c.args.fact.now c.args.scale c.args.fact_factor c.in_ok-s.s c.in_ok-n.n z c.requires.taken e h g)
