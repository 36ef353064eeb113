use Rattle.std.proofs.Common.{◌≡◌, length}
use Rattle.parallel_check.specs.DealingSupport.{IsDealt}
use Rattle.parallel_check.proofs.dealing.deal.Given as goal

abbrev pub invariant-loop-item : goal.invariant-loop-item
invariant-loop-item g l = (length l.yielded ≡ l.place) × IsDealt l.workers 0 l.yielded l.batches.items
