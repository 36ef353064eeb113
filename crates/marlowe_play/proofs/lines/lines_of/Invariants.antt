use Rattle.std.proofs.Common.{take}
use Rattle.marlowe_play.specs.PlayedSupport.{AreLines}
use Rattle.marlowe_play.proofs.lines.lines_of.Given as goal

abbrev pub invariant-loop-place : goal.invariant-loop-place
invariant-loop-place l = AreLines l.chain l.contracts (take l.place l.threads) (take l.place l.starts) l.lines.items
