-- What a spelling has to be: one value's alone, and the beginning of no other.
use Rattle.std.specs.Prelude.{◌≡◌, ℕ, List, ◌++◌}

-- Bytes that begin with the spelling of a value that fits begin with that of no other such value, and what
-- follows the spelling is determined.
abbrev pub ReadsOneWay : {X : Type 0} → (X → Type 0) → (X → List ℕ) → Type 0
ReadsOneWay {X} Fits spelling = (x y : X) → Fits x → Fits y → (after_x after_y : List ℕ)
    → spelling x ++ after_x ≡ spelling y ++ after_y → (x ≡ y) × (after_x ≡ after_y)

-- No spelling begins the spelling of another value.
abbrev pub BeginsNoOther : {X : Type 0} → (X → Type 0) → (X → List ℕ) → Type 0
BeginsNoOther {X} Fits spelling = (x y : X) → Fits x → Fits y → (rest : List ℕ) → spelling x ++ rest ≡ spelling y → x ≡ y
