use Rattle.std.proofs.Common.{◌∙◌}
use Rattle.builder_spec.specs.Steps.{Stepped, authority_cause}
use Rattle.builder.proofs.CausesLemmas.{cause_passes, cause_stops}
use Rattle.builder.proofs.steps.check_actors.Goals as goal

pub returns-in-Err : goal.returns-in-Err
returns-in-Err c = λ ne.
    let r = c.args.asked.now in
    c.loop-step.invariant
    ∙ cause_stops (λ (s : Stepped). authority_cause s.thread.shown.published.currency r.signers r.offered s.inputs) c.args.steps.now c.loop-step.step-index c.step-item.result c.in-Err.fault
    c.loop-step-test.true c.step-item.is (c.in-Err.ensures ne)

pub loop-step-preserved : goal.loop-step-preserved
loop-step-preserved c =
    let r = c.args.asked.now in
    c.loop-step.invariant
    ∙ cause_passes (λ (s : Stepped). authority_cause s.thread.shown.published.currency r.signers r.offered s.inputs) c.args.steps.now c.loop-step.step-index c.step-item.result
    c.loop-step-test.true c.step-item.is c.in-Ok.ensures
