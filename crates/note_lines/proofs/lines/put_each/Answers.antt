use Rattle.contract.specs.Tree.{contract_tree}
use Rattle.note_lines.specs.NoteLines.{note_line}
use Rattle.places.proofs.PieceLaws.{piece_more}
use Rattle.note_lines.proofs.lines.put_each.Goals as goal

pub loop-note-preserved : goal.loop-note-preserved
loop-note-preserved c =
    piece_more (note_line (contract_tree c.args.contract.now)) c.args.notes.now c.loop-note.note-index c.note-item.result c.args.out.now.items c.loop-note.out.items c.put_note.new.out.items c.loop-note-test.true c.note-item.is c.loop-note.invariant c.in_ok-put_note.ensures
