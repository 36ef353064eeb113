use Rattle.std.proofs.Common.{◌≡◌, take}
use Rattle.collections.proofs.entries.copies_of.Given as goal

abbrev pub invariant-loop-key : goal.invariant-loop-key
invariant-loop-key g l = l.copies.items ≡ take l.key-index l.entries
