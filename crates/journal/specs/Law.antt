-- The rule of the log, and what its steps tell.
use Rattle.std.specs.Prelude.{◌≡◌, ◌≢◌, ℕ, ◌<◌, true, List, [], ◌∷◌, ◌++◌, length, None, option_map}
use Rattle.logbook.specs.Pages.{Cell, cell, Step, View, Book, Named, nib, may_make}
use Rattle.journal.specs.declared.note.Note.{Note}
use Rattle.journal.specs.declared.note.Draft.{Draft}
use Rattle.journal.specs.Notes.{last_key, told, Unused}

-- each note has used up its key: the word of that key is at home for good
abbrev pub AllSpent : {E : Type 0} → List Cell → List (Note E) → Type 0
AllSpent cells [] = Unit {0}
AllSpent cells (n ∷ ns) = ((cell cells n.by).1 ≡ true) × (n.by ≢ 0) × AllSpent cells ns

pub record IsKept {E : Type 0} (cells : List Cell) (log : List (Note E)) : Type 0 where
  pub some : 0 < length cells
  pub head : (cell cells 0).1 ≡ true
  pub spent : AllSpent cells log

abbrev pub head_of : Book → Named
head_of b = record { tracked = true; key = 0; book = b }

abbrev pub no_note : {E : Type 0} → Note E
no_note = record { by = 0; next = 0; entry = None }

abbrev pub note_of : {E : Type 0} → Draft E → Note E
note_of d = record { by = d.by.value.nib.key; next = d.next.value.nib.key; entry = option_map (λ s. s.value) d.entry }

-- a new key was drawn
abbrev pub Draws : {E : Type 0} → Step (Note E) → View (Note E) ℕ → ℕ → View (Note E) ℕ → Type 0
Draws s v found w = (k : ℕ) × (w.1.0 ≡ nib may_make k 0)

-- the note was added, and since the log was last seen no other followed from its key
abbrev pub Adds : {E : Type 0} → Step (Note E) → View (Note E) ℕ → ℕ → View (Note E) ℕ → Type 0
Adds {E} s v found w =
    (rest : List (Note E)) × (w.0 ≡ (v.0 ++ rest) ++ s.ask ∷ []) × (told v.1.0.key rest ≡ []) × (last_key v.1.0.key rest ≡ v.1.0.key)

-- the pen is still there, and no note has used up its key
abbrev pub Looks : {E : Type 0} → Step (Note E) → View (Note E) ℕ → ℕ → View (Note E) ℕ → Type 0
Looks s v found w = (w.1.0 ≡ v.1.0) × Unused v.1.0.key w.0
