use Rattle.std.proofs.Common.{◌≡◌, ◌++◌, take}
use Rattle.std.specs.Prelude.{flat_map}
use Rattle.note_lines.specs.NoteLines.{once_line}
use Rattle.note_lines.proofs.lines.put_once.Given as goal

abbrev pub invariant-loop-party : goal.invariant-loop-party
invariant-loop-party l = l.out.items ≡ l.fn.out.items ++ flat_map once_line (take l.party-index l.once)
