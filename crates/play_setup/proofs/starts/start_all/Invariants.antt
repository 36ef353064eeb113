use Rattle.std.proofs.Common.{take}
use Rattle.play_setup.specs.SetUpSupport.{WereStarted}
use Rattle.play_setup.proofs.starts.start_all.Given as goal

abbrev pub invariant-loop-thread : goal.invariant-loop-thread
invariant-loop-thread g l = WereStarted l.contracts (take l.thread-index l.threads) l.initial.seat l.seat l.starts.items
