-- The shortest front.
use Rattle.std.proofs.Common.{◌≡◌, Bool, true, false, List, [], ◌∷◌, ◌++◌, refl, ap}
use Rattle.std.specs.Prelude.{if◌then◌else◌}
use Rattle.ledger_spec.specs.BuilderSpec.Fronts.{shortest}

-- what it is followed by
pub shortest_rest : {A : Type 0} (test : List A → Bool) (xs : List A) → (later : List A) × (xs ≡ shortest test xs ++ later)
shortest_rest test [] = ([], refl)
shortest_rest {A} test (x ∷ xs) = by_test (test []) (shortest (λ ys. test (x ∷ ys)) xs) (shortest_rest (λ ys. test (x ∷ ys)) xs)
  where
    by_test : (b : Bool) (further : List A) → (later : List A) × (xs ≡ further ++ later) → (later : List A) × (x ∷ xs ≡ (if b then [] else x ∷ further) ++ later)
    by_test true further r = (x ∷ xs, refl)
    by_test false further r = (r.0, ap (λ ys. x ∷ ys) r.1)
