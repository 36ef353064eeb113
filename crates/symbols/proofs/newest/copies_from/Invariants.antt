use Rattle.std.proofs.Common.{◌≡◌, take}
use Rattle.symbols.proofs.newest.copies_from.Given as goal

abbrev pub invariant-loop-item : goal.invariant-loop-item
invariant-loop-item g l = l.out ≡ take l.item-index l.part
