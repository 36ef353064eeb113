use Rattle.std.proofs.Common.{◌≡◌, drop}
use Rattle.play_endings.specs.Endings.{behind}
use Rattle.play_endings.proofs.walk.behind.Given as goal

abbrev pub invariant-loop-index : goal.invariant-loop-index
invariant-loop-index l = behind l.look (drop l.index l.own) ≡ behind l.look l.own
