use Rattle.std.proofs.Common.{take, map}
use Rattle.json_write_contracts.specs.Tokens.{Adds}
use Rattle.json_write_contracts.proofs.ListedLaws.{front}
use Rattle.contract.specs.Tree.{contract_tree}
use Rattle.note_lines.specs.NoteLines.{note_json}
use Rattle.note_lines.proofs.tools.put_each.Given as goal

-- the items so far are written
abbrev pub invariant-loop-note : goal.invariant-loop-note
invariant-loop-note l = Adds l.initial.out l.out (front (map (note_json (contract_tree l.contract)) (take l.note-index l.notes)))
