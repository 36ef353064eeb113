use Rattle.std.proofs.Common.{◌≡◌, ◌∙◌, ◌++◌, ap, ap₂, append_assoc, length, map, string_bytes, sym}
use Rattle.std.proofs.lemmas.List.{length-map}
use Rattle.marlowe_play.specs.Notes.{holdings_by, lines_by, notes_with}
use Rattle.marlowe_play.proofs.NotesLemmas.{notes_with_long}
use Rattle.marlowe_play.proofs.all.all_told.Goals as goal

-- there is a note for each entry
pub lines_by-requires : goal.lines_by-requires
lines_by-requires c =
    ap (λ l. length l) c.deref.ensures.value
    ∙ sym (length-map c.in_ok-told.told.notes.items (λ s. string_bytes s))
    ∙ ap (λ l. length l) c.in_ok-told.ensures.notes
    ∙ notes_with_long c.args.spelling c.args.scenario.now (map (λ l. l.items) c.args.left.now) c.args.entries.now

-- the entries and threads, how intents ended, and who holds what
pub returns : goal.returns
returns c =
    let sp = c.args.spelling in
    let s = c.args.scenario.now in
    let es = c.args.entries.now in
    let ts = c.args.threads.now in
    let lefts = map (λ l. l.items) c.args.left.now in
    let text = c.in_ok-text.text.items in
    let told = string_bytes c.in_ok-told.told.lines in
    let ending = string_bytes c.in_ok-ending.ending in
    let whole : c.extend_from_slice-2.new.self.items ≡ (text ++ told) ++ ending =
    cc (c.in_ok-extend_from_slice-2.ensures.items, c.in_ok-extend_from_slice.ensures.items, c.as_bytes.ensures.value, c.as_bytes-2.ensures.value) in
    let is_text : text ≡ lines_by sp (notes_with sp s lefts es) es ts = cc (c.in_ok-text.ensures, c.deref.ensures.value, c.in_ok-told.ensures.notes) in
    let is_ending : ending ≡ holdings_by sp s.threads c.args.holdings.now = cc (c.in_ok-ending.ensures, c.as_slice.ensures) in
    whole
    ∙ append_assoc text told ending
    ∙ ap (λ x. x ++ (told ++ ending)) is_text
    ∙ ap₂ (λ x y. lines_by sp (notes_with sp s lefts es) es ts ++ (x ++ y)) c.in_ok-told.ensures.lines is_ending
