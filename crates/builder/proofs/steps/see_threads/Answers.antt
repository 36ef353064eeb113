use Rattle.builder.proofs.OutcomesLemmas.{positive_more}
use Rattle.builder.proofs.steps.see_threads.Goals as goal

pub loop-step-preserved : goal.loop-step-preserved
loop-step-preserved c = positive_more c.args.steps.now c.loop-step.step-index c.step-item.result c.loop-step-test.true c.step-item.is c.loop-step.invariant c.see_thread.ensures
