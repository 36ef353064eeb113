-- The shortest beginning that passes a test.
use Rattle.std.proofs.Common.{◌≡◌, ℕ, zero, suc, Bool, true, false, if◌then◌else◌, List, [], ◌∷◌, length, take, refl, sym, ◌∙◌, ap, ◌⊎◌, inl, inr, arith}
use Rattle.builder_spec.specs.Fronts.{shortest}
use Rattle.builder_spec.specs.FrontsSupport.{IsShortest}

stops : {A : Type 0} (test : List A → Bool) (x : A) (xs : List A) → test [] ≡ true → shortest test (x ∷ xs) ≡ []
stops test x xs e = rw e refl

goes : {A : Type 0} (test : List A → Bool) (x : A) (xs : List A) → test [] ≡ false → shortest test (x ∷ xs) ≡ x ∷ shortest (λ ys. test (x ∷ ys)) xs
goes test x xs e = rw e refl

-- a beginning that is shortest is the one that is defined
pub shortest_is : {A : Type 0} (test : List A → Bool) (xs : List A) (n : ℕ) → IsShortest test xs n → take n xs ≡ shortest test xs
shortest_is test [] zero h = refl
shortest_is test [] (suc n) h = refl
shortest_is test (x ∷ xs) zero h = elim h.reached [
  | inl e ↦ sym (stops test x xs e)
  | inr e ↦ absurd (omega (arith, e))
]
shortest_is test (x ∷ xs) (suc n) h =
    let none : test [] ≡ false = h.shorter 0 (omega arith) in
    ap (λ ys. x ∷ ys) (shortest_is (λ ys. test (x ∷ ys)) xs n (record {
      within = omega (arith, h.within);
      shorter = λ k l. h.shorter (suc k) (omega (arith, l));
      reached = elim h.reached as (λ _. (test (x ∷ take n xs) ≡ true) ⊎ (n ≡ length xs)) [
        | inl e ↦ inl e
        | inr e ↦ inr (omega (arith, e))
      ];
    })) ∙ sym (goes test x xs none)

passes_by : {A : Type 0} (test : List A → Bool) (x : A) (xs : List A) (b : Bool) → test [] ≡ b → test (x ∷ shortest (λ ys. test (x ∷ ys)) xs) ≡ true → test (if b then [] else x ∷ shortest (λ ys. test (x ∷ ys)) xs) ≡ true
passes_by test x xs true e h = e
passes_by test x xs false e h = h

-- where all pass, the shortest beginning does
pub shortest_passes : {A : Type 0} (test : List A → Bool) (xs : List A) → test xs ≡ true → test (shortest test xs) ≡ true
shortest_passes test [] h = h
shortest_passes test (x ∷ xs) h = passes_by test x xs (test []) refl (shortest_passes (λ ys. test (x ∷ ys)) xs h)
