use Rattle.std.proofs.Common.{◌≡◌, List, length, take, drop}
use Rattle.parallel_check.specs.DealingSupport.{IsDealt}
use Rattle.parallel_check.proofs.dealing.gather.Given as goal

abbrev pub invariant-loop-place : goal.invariant-loop-place
invariant-loop-place g l =
    (length l.batches.items ≡ length l.fn.batches.items)
    × ((xs : List g.row.T.Denot) → length xs ≡ l.count → IsDealt (length l.fn.batches.items) 0 xs l.fn.batches.items →
    (l.all.items ≡ take l.place xs) × IsDealt (length l.fn.batches.items) l.place (drop l.place xs) l.batches.items)
