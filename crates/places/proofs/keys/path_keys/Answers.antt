use Rattle.std.proofs.Common.{[]}
use Rattle.places.specs.Places.{step_keys}
use Rattle.places.proofs.PieceLaws.{piece_more_at}
use Rattle.places.proofs.keys.path_keys.Goals as goal

pub loop-step-preserved : goal.loop-step-preserved
loop-step-preserved c =
    piece_more_at _ step_keys c.args.path.now c.loop-step.step-index [] c.loop-step.keys.items c.put_keys.new.keys.items c.loop-step-test.true c.loop-step.invariant c.in_ok-put_keys.ensures
