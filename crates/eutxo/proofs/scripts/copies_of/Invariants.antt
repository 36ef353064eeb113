use Rattle.std.proofs.Common.{◌≡◌, take}
use Rattle.eutxo.proofs.scripts.copies_of.Given as goal

abbrev pub invariant-loop-id : goal.invariant-loop-id
invariant-loop-id g l = l.copies.items ≡ take l.id-index l.entries
