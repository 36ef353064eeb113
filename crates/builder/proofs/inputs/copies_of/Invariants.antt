use Rattle.std.proofs.Common.{◌≡◌, take}
use Rattle.builder.proofs.inputs.copies_of.Given as goal

abbrev pub invariant-loop-item : goal.invariant-loop-item
invariant-loop-item g l = l.copies ≡ take l.item-index l.items
