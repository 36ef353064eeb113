-- Where a key stands among entries in order. No reader needs this file: only a private function promises it.
use Rattle.std.specs.Prelude.{ℕ, ◌+◌, List, [], ◌∷◌, Result, Ok, Err}
use Rattle.std.specs.declared.cmp.Ordering.{Ordering}
use Rattle.std.specs.Ordering.{match_ordering}

-- a place, n later
abbrev pub later : ℕ → Result ℕ ℕ → Result ℕ ℕ
later n (Ok i) = Ok (n + i)
later n (Err i) = Err (n + i)

-- the place of the key, or else the place where it would go
abbrev pub search : {K X : Type 0} → (K → K → Ordering) → K → List (K × X) → Result ℕ ℕ
search R k [] = Err 0
search R k (e ∷ es) = match_ordering (R k e.0) (Err 0) (Ok 0) (later 1 (search R k es))
