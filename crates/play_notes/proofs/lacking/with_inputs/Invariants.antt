use Rattle.std.proofs.Common.{◌≡◌, drop}
use Rattle.play_notes.specs.Lacking.{with_inputs}
use Rattle.play_notes.proofs.lacking.with_inputs.Given as goal

abbrev pub invariant-loop-input : goal.invariant-loop-input
invariant-loop-input l = with_inputs l.token l.all (drop l.input-index l.inputs) ≡ with_inputs l.token l.fn.total l.inputs
