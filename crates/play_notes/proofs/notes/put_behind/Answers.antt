use Rattle.std.proofs.Common.{ap, get_or, string_bytes}
use Rattle.std.proofs.lemmas.Result.{on_ok_weaker}
use Rattle.play_notes.proofs.NotesLemmas.{put_outside, put_inside}
use Rattle.play_notes.proofs.notes.put_behind.Goals as goal

pub returns-then-place-notes : goal.returns-then-place-notes
returns-then-place-notes c = put_outside (λ s. string_bytes s) c.args.place c.args.text.now c.args.notes.now c.if-place-notes.true

pub returns : goal.returns
returns c =
    let notes = c.args.notes.now in
    let old = get_or notes c.args.place c.index-notes-place.result in
    on_ok_weaker c.put_text.result
    (λ put. put_inside (λ s. string_bytes s) c.args.place c.args.text.now notes old c.put_text.new.out c.if-place-notes.false (ap (λ s. get_or notes c.args.place s) c.index-notes-place.is) put) c.put_text.ensures
