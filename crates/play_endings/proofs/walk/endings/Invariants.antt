use Rattle.std.proofs.Common.{◌≡◌, ◌++◌, drop}
use Rattle.play_endings.specs.Endings.{endings}
use Rattle.play_endings.proofs.walk.endings.Given as goal

abbrev pub invariant-loop-place : goal.invariant-loop-place
invariant-loop-place l = l.ended.items ++ endings l.taken l.place (drop l.place l.intents) l.outs l.rest ≡ endings l.taken 0 l.intents l.left l.own
