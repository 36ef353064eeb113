-- Notes in a log that only grows. Each uses up one key and names the next, so that the notes which follow from one key are one list, whoever else writes notes.
use Rattle.std.specs.Prelude.{◌≡◌, ℕ, false, ◌==◌, List, [], ◌∷◌, ◌++◌, Option, Some, None, if◌then◌else◌}
use Rattle.journal.specs.declared.note.Note.{Note}

-- the key that comes after a note
abbrev pub next_key : {E : Type 0} → ℕ → Note E → ℕ
next_key k n = if n.by == k then n.next else k

-- the key that comes after these notes
abbrev pub last_key : {E : Type 0} → ℕ → List (Note E) → ℕ
last_key k [] = k
last_key k (n ∷ ns) = last_key (next_key k n) ns

abbrev pub entries_of : {E : Type 0} → Option E → List E
entries_of None = []
entries_of (Some x) = x ∷ []

-- the entries of the notes that follow from this key
abbrev pub told : {E : Type 0} → ℕ → List (Note E) → List E
told k [] = []
told k (n ∷ ns) = (if n.by == k then entries_of n.entry else []) ++ told (next_key k n) ns

-- no note has used up this key
abbrev pub Unused : {E : Type 0} → ℕ → List (Note E) → Type 0
Unused k [] = Unit {0}
Unused k (n ∷ ns) = ((n.by == k) ≡ false) × Unused k ns
