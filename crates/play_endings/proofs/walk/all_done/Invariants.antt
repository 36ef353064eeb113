use Rattle.std.proofs.Common.{◌≡◌, drop}
use Rattle.play_endings.specs.Endings.{all_done}
use Rattle.play_endings.proofs.walk.all_done.Given as goal

abbrev pub invariant-loop-one : goal.invariant-loop-one
invariant-loop-one l = all_done (drop l.one-index l.ended) ≡ all_done l.ended
