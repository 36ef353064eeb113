use Rattle.std.proofs.Common.{List, ℕ, ◌++◌, ◌∙◌, ap, string_bytes}
use Rattle.play_notes.proofs.NotesLemmas.{entry_next}
use Rattle.play_notes.proofs.noted.put_entries.Goals as goal

pub loop-number-preserved : goal.loop-number-preserved
loop-number-preserved c =
    let a = string_bytes c.print_entry.new.out in
    let put = c.in_ok-push_str.ensures.bytes ∙ ap (λ (t : List ℕ). a ++ t) c.as_str.ensures.value in
    entry_next (λ s. string_bytes s) c.args.notes.now c.args.entries.now c.loop-number.number c.index-notes-number.result c.index-entries-number.result (string_bytes c.loop-number.out) a (string_bytes c.push_str.new.self)
    _ c.requires c.loop-number-test.true c.index-notes-number.is c.index-entries-number.is c.in_ok-print_entry.ensures put c.loop-number.invariant
