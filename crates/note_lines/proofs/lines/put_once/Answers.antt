use Rattle.note_lines.specs.NoteLines.{once_line}
use Rattle.places.proofs.PieceLaws.{piece_more}
use Rattle.note_lines.proofs.lines.put_once.Goals as goal

pub loop-party-preserved : goal.loop-party-preserved
loop-party-preserved c =
    piece_more once_line c.args.once.now c.loop-party.party-index c.party-item.result c.args.out.now.items c.loop-party.out.items c.put_party_line.new.out.items c.loop-party-test.true c.party-item.is c.loop-party.invariant c.in_ok-put_party_line.ensures
