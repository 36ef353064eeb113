use Rattle.std.proofs.Common.{◌+◌, take, sym, ◌∙◌, subst}
use Rattle.builder_spec.specs.Semantics.Walk.{answer_of}
use Rattle.builder_spec.specs.Steps.{Stepped, semantics_cause}
use Rattle.builder_spec.specs.Parts.{part_walk}
use Rattle.builder.specs.PartsSupport.{AreOutcomes}
use Rattle.builder.proofs.CausesLemmas.{cause_passes, cause_stops}
use Rattle.builder.proofs.OutcomesLemmas.{standing_at, outcomes_more}
use Rattle.builder.proofs.steps.outcomes_of.Goals as goal

pub outcome_of-requires : goal.outcome_of-requires
outcome_of-requires c = standing_at c.args.steps.now c.loop-step.step-index c.step-item.result c.loop-step-test.true c.step-item.is c.requires

pub returns-in-Err-clause-passes : goal.returns-in-Err-clause-passes
returns-in-Err-clause-passes c = λ ne.
    c.loop-step.invariant.causes
    ∙ cause_stops (λ (s : Stepped). semantics_cause (answer_of (part_walk c.args.asked.now s))) c.args.steps.now c.loop-step.step-index c.step-item.result c.in-Err.fault
    c.loop-step-test.true c.step-item.is (c.in-Err.ensures.passes ne)

pub loop-step-preserved : goal.loop-step-preserved
loop-step-preserved c =
    let r = c.args.asked.now in
    let ss = c.args.steps.now in
    let i = c.loop-step.step-index in
    let s = c.step-item.result in
    record {
      outcomes = subst (λ outs. AreOutcomes r (take (i + 1) ss) outs) (sym c.in_ok-push-in-Ok.ensures.items)
          (outcomes_more r ss i s c.loop-step.outcomes.items c.in-Ok.outcome c.loop-step-test.true c.step-item.is c.loop-step.invariant.outcomes c.in-Ok.ensures.outcome);
      causes = c.loop-step.invariant.causes
          ∙ cause_passes (λ (x : Stepped). semantics_cause (answer_of (part_walk r x))) ss i s c.loop-step-test.true c.step-item.is c.in-Ok.ensures.passes;
    }
