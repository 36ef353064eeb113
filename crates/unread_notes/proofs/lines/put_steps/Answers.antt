use Rattle.unread_notes.specs.Lines.{step_text}
use Rattle.unread_notes.proofs.PieceLemmas.{piece_more}
use Rattle.unread_notes.proofs.lines.put_steps.Goals as goal

pub loop-step-preserved : goal.loop-step-preserved
loop-step-preserved c =
    piece_more _ step_text c.args.path.now c.loop-step.step-index c.args.out.now.items c.loop-step.out.items c.put_step.new.out.items c.loop-step-test.true c.loop-step.invariant c.in_ok-put_step.ensures
