-- Faults by a test, at the lowest place where a test holds, and the first of several.
use Rattle.std.specs.Prelude.{ℕ, ◌+◌, Bool, true, false, if◌then◌else◌, List, [], ◌∷◌, position, Option, Some, None, option_map}

-- the first that is there
abbrev pub first_of : {A : Type 0} → List (Option A) → Option A
first_of [] = None
first_of (None ∷ xs) = first_of xs
first_of (Some x ∷ xs) = Some x

-- the first, or else the second
abbrev pub or_else : {A : Type 0} → Option A → Option A → Option A
or_else None y = y
or_else (Some x) y = Some x

-- a fault, where the test holds
abbrev pub fault_if : {F : Type 0} → F → Bool → Option F
fault_if fault b = if b then Some fault else None

-- a fault at the lowest place where the test holds
abbrev pub fault_at : {A F : Type 0} → (ℕ → F) → (A → Bool) → List A → Option F
fault_at fault test xs = option_map fault (position test xs)

-- the lowest place, from i on, at which the test holds of the place and the element
abbrev pub first_index : {A : Type 0} → (ℕ → A → Bool) → ℕ → List A → Option ℕ
first_index test i [] = None
first_index test i (x ∷ xs) = if test i x then Some i else first_index test (i + 1) xs

abbrev pub is_empty : {A : Type 0} → List A → Bool
is_empty [] = true
is_empty (x ∷ xs) = false
