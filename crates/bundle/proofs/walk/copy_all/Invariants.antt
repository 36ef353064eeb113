use Rattle.std.proofs.Common.{◌≡◌, ◌++◌, take}
use Rattle.bundle.proofs.walk.copy_all.Given as goal

abbrev pub invariant-loop-entry : goal.invariant-loop-entry
invariant-loop-entry l = l.out.items ≡ l.fn.out.items ++ take l.entry-index l.entries
