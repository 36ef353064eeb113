use Rattle.std.proofs.Common.{refl}
use Rattle.json_write_contracts.proofs.AddsLaws.{wrote}
use Rattle.json_write_contracts.proofs.ListedLaws.{listed, closed}
use Rattle.contract.specs.Tree.{contract_tree}
use Rattle.note_lines.specs.NoteLines.{note_json}
use Rattle.note_lines.proofs.tools.put_each.Goals as goal

pub loop-note-preserved : goal.loop-note-preserved
loop-note-preserved c =
    listed (note_json (contract_tree c.args.contract.now)) c.args.notes.now c.loop-note.note-index c.note-item.result c.begin_array.new.self c.loop-note.out c.put_note.new.out c.loop-note-test.true c.note-item.is c.loop-note.invariant c.in_ok-put_note.ensures

pub returns : goal.returns
returns c =
    closed (note_json (contract_tree c.args.contract.now)) c.args.notes.now c.args.notes.now c.loop-note.note-index c.args.out.now c.begin_array.new.self c.loop-note.out c.end_array.new.self refl c.loop-note-test.false (wrote c.in_ok-begin_array.ensures)
    c.loop-note.invariant (wrote c.in_ok-end_array.ensures)
