use Rattle.std.proofs.Common.{◌++◌, refl, ap, ◌∙◌}
use Rattle.text_spots.specs.Spots.{spot_at}
use Rattle.unread_keys.specs.Unread.{note_of}
use Rattle.unread_notes.specs.Lines.{line_of}
use Rattle.unread_notes.proofs.notes.put_line.Goals as goal

pub returns-clause-line : goal.returns-clause-line
returns-clause-line c =
    let n = c.in_ok-place.place.offset in
    let note = note_of c.args.key.now in (
      line_of c.args.file.now (spot_at c.args.text.now n) note,
      (n, c.in_ok-place.ensures.stands, refl),
      c.in_ok-put_told.ensures ∙ ap (λ s. c.args.out.now.items ++ line_of c.args.file.now s note) c.in_ok-place.ensures.spot,
    )
