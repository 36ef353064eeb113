use Rattle.unread_notes.proofs.NotesLemmas.{lines_past, lines_end}
use Rattle.unread_notes.proofs.notes.put_some_lines.Goals as goal

pub loop-key-init : goal.loop-key-init
loop-key-init c = record { lines = λ new puts. puts; spot = c.beginning-place.ensures }

pub loop-key-preserved : goal.loop-key-preserved
loop-key-preserved c = record {
  lines = lines_past c.args.file.now c.args.text.now c.args.keys.now c.loop-key.key-index c.key-item.result c.args.out.now.items c.loop-key.out.items c.put_line.new.out.items
      c.loop-key-test.true c.key-item.is c.loop-key.invariant.lines c.in_ok-place.ensures.line;
  spot = c.in_ok-place.ensures.spot;
}

pub returns : goal.returns
returns c =
    lines_end c.args.file.now c.args.text.now c.args.keys.now c.loop-key.key-index c.args.out.now.items c.loop-key.out.items c.loop-key-test.false c.loop-key.invariant.lines
