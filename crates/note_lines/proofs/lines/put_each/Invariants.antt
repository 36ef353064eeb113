use Rattle.std.proofs.Common.{◌≡◌, ◌++◌, take}
use Rattle.std.specs.Prelude.{flat_map}
use Rattle.contract.specs.Tree.{contract_tree}
use Rattle.note_lines.specs.NoteLines.{note_line}
use Rattle.note_lines.proofs.lines.put_each.Given as goal

abbrev pub invariant-loop-note : goal.invariant-loop-note
invariant-loop-note l = l.out.items ≡ l.fn.out.items ++ flat_map (note_line (contract_tree l.contract)) (take l.note-index l.notes)
