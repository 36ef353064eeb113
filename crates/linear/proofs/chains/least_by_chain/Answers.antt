use Rattle.std.proofs.Common.{rules, FitsSigned, refl}
use Rattle.std.specs.Int.{w128}
use Rattle.std.proofs.lemmas.Int.{to_z-of_z}
use Rattle.linear.specs.Bounded.{numbered}
use Rattle.linear.proofs.ChainLemmas.{begun}
use Rattle.linear.proofs.chains.least_by_chain.Goals as goal

pub returns : goal.returns
returns c =
    let fb : FitsSigned w128 c.in_ok-base.base = search rules in
    let fc : FitsSigned w128 c.constant.result = search rules in
    let e = rw (to_z-of_z w128 c.args.factor c.ranges.factor, to_z-of_z w128 c.constant.result fc, c.constant.ensures) at c.in_ok-base.ensures in
    let f = rw (to_z-of_z w128 c.args.factor c.ranges.factor, c.terms.ensures, c.terms-2.ensures) at c.in_ok-count.ensures in
    let h = rw (to_z-of_z w128 c.in_ok-base.base fb) at c.least_in_steps.ensures in
    begun (numbered 0 c.args.bounds.now) c.args.facts.now c.args.factor c.args.expression.now c.fill.new.out _ c.in_ok-base.base c.in_ok-count.count c.least_in_steps.result e f refl h
