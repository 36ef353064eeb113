use Rattle.told_parts.specs.Lines.{step_text}
use Rattle.told_parts.proofs.PieceLemmas.{piece_more}
use Rattle.told_parts.proofs.pieces.put_steps.Goals as goal

pub loop-step-preserved : goal.loop-step-preserved
loop-step-preserved c =
    piece_more _ step_text c.args.path.now c.loop-step.step-index c.args.out.now.items c.loop-step.out.items c.put_step.new.out.items c.loop-step-test.true c.loop-step.invariant c.in_ok-put_step.ensures
