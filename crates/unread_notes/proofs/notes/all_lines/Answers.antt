use Rattle.unread_notes.proofs.NotesLemmas.{all_told}
use Rattle.unread_notes.proofs.notes.all_lines.Goals as goal

pub returns : goal.returns
returns c =
    λ all kept.
    all_told c.args.file.now c.args.text.now all c.args.keys.now c.first_ones.result.now c.new-out.result.items c.put_lines.new.out.items c.put_more.new.out.items c.new-out.ensures.items kept
    c.first_ones.ensures c.in_ok-put_lines.ensures c.in_ok-put_more.ensures
