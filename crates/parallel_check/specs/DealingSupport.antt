-- Items dealt to workers in turn. No reader needs this file: no public clause names it.
use Rattle.std.specs.Prelude.{◌≡◌, ℕ, ◌+◌, ◌%◌, ◌<◌, ◌==◌, if◌then◌else◌, List, [], ◌∷◌, map, length, slice_index_or, Result, Ok}

-- of items of which the first stands at a place, those that the worker w of n gets
abbrev pub batch_of : {X : Type 0} → ℕ → ℕ → ℕ → List X → List X
batch_of n w place [] = []
batch_of n w place (x ∷ xs) = if place % n == w then x ∷ batch_of n w (place + 1) xs else batch_of n w (place + 1) xs

-- each of n workers has what it gets
abbrev pub IsDealt : {X : Type 0} → ℕ → ℕ → List X → List (List X) → Type 0
IsDealt n place xs batches = (length batches ≡ n) × ((w : ℕ) → w < n → slice_index_or batches w [] ≡ batch_of n w place xs)

-- all answers are there
abbrev pub AllOk : {X E : Type 0} → List (Result X E) → List X → Type 0
AllOk answers xs = answers ≡ map (λ x. Ok x) xs
