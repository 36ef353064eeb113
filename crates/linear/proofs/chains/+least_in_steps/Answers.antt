use Rattle.std.proofs.Common.{rules, ◌+ℤ◌, FitsSigned, refl}
use Rattle.std.specs.Int.{w128}
use Rattle.std.proofs.lemmas.Int.{to_z-of_z}
use Rattle.linear.specs.Linear.{sum_at}
use Rattle.linear.specs.Bounded.{numbered}
use Rattle.linear.proofs.ChainLemmas.{behind_first, better_alone, step_by_fact, step_by_range}
use Rattle.linear.proofs.chains.+least_in_steps.Goals as goal

pub returns-in-Some-take_out : goal.returns-in-Some-take_out
returns-in-Some-take_out t c =
    let fb : FitsSigned w128 c.in-Some-take_out.base = search rules in
    let fs : FitsSigned w128 c.in-Some-take_out.scale = search rules in
    let a = rw (to_z-of_z w128 c.args.constant c.ranges.constant) at c.least_alone-alone.ensures in
    let o = rw (to_z-of_z w128 c.args.constant c.ranges.constant) at c.in-Some-take_out.ensures in
    let h = rw (to_z-of_z w128 c.in-Some-take_out.base fb) at c.least_in_steps-rest.ensures in
    let k = rw (to_z-of_z w128 c.in-Some-take_out.scale fs) at c.rounded.ensures in
    better_alone (numbered 0 c.args.bounds.now) c.args.facts.now (λ r. c.args.constant +ℤ sum_at r c.args.terms.now) c.least_alone-alone.result c.rounded.result c.greater.result a
    (step_by_fact (numbered 0 c.args.bounds.now) c.args.facts.now c.args.constant c.args.terms.now c.in-Some.at c.index-facts-at.result c.take_out.new.out _ c.in-Some-take_out.base c.in-Some-take_out.count
    c.in-Some-take_out.scale c.least_in_steps-rest.result c.rounded.result c.in-Some.ensures c.index-facts-at.is o refl h k)
    c.greater.ensures

pub returns-in-Some-lowered : goal.returns-in-Some-lowered
returns-in-Some-lowered t c =
    let fb : FitsSigned w128 c.in-Some-lowered.base = search rules in
    let a = rw (to_z-of_z w128 c.args.constant c.ranges.constant) at c.least_alone-alone.ensures in
    let l = rw (to_z-of_z w128 c.args.constant c.ranges.constant) at c.in-Some-lowered.ensures in
    let h = rw (to_z-of_z w128 c.in-Some-lowered.base fb) at c.least_in_steps-rest-in-Some-lowered.ensures in
    better_alone (numbered 0 c.args.bounds.now) c.args.facts.now (λ r. c.args.constant +ℤ sum_at r c.args.terms.now) c.least_alone-alone.result c.least_in_steps-rest-in-Some-lowered.result
    c.greater-in-Some-lowered.result a
    (step_by_range (numbered 0 c.args.bounds.now) c.args.facts.now c.args.constant c.args.terms.now _ c.in-Some-lowered.base c.least_in_steps-rest-in-Some-lowered.result l (behind_first c.args.terms.now) h) c.greater-in-Some-lowered.ensures
