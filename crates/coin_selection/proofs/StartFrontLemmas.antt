-- The shortest front that has one output at least.
use Rattle.std.proofs.Common.{◌≡◌, ℤ, ℕ, zero, suc, ◌<◌, Bool, true, false, not, ◌&&◌, List, [], ◌∷◌, length, take, refl, sym, subst, ◌⊎◌, inl, inr, arith}
use Rattle.builder_spec.specs.Eutxo.Faults.{is_empty}
use Rattle.contract.specs.Names.declared.token.Token.{Token}
use Rattle.builder_spec.specs.Ledger.declared.look.Unspent.{Unspent}
use Rattle.builder_spec.specs.Holding.{amount_in, AreBundles}
use Rattle.builder_spec.specs.Fronts.{shortest, suffices}
use Rattle.builder_spec.specs.FrontsSupport.{IsShortest}
use Rattle.builder_spec.proofs.FrontsLaws.{shortest_is}
use Rattle.builder_spec.proofs.SufficesLaws.{suffices_longer}

abbrev pub and_some : {A : Type 0} → (List A → Bool) → List A → Bool
and_some test xs = not (is_empty xs) && test xs

passes_some : {A : Type 0} (test : List A → Bool) (xs : List A) (n : ℕ) → 0 < n → 0 < length xs → test (take n xs) ≡ true → and_some test (take n xs) ≡ true
passes_some test xs zero h l e = absurd (omega (arith, h))
passes_some test [] (suc n) h l e = absurd (omega (arith, l))
passes_some test (x ∷ xs) (suc n) h l e = e

fails_some : {A : Type 0} (test : List A → Bool) (xs : List A) → test xs ≡ false → and_some test xs ≡ false
fails_some test [] e = refl
fails_some test (x ∷ xs) e = e

none_passes : {A : Type 0} (test : List A → Bool) (k : ℕ) (xs : List A) → k < 1 → and_some test (take k xs) ≡ false
none_passes test zero xs h = refl
none_passes test (suc k) xs h = absurd (omega (arith, h))

-- where the shortest is nothing, one is needed
pub one_is_shortest : {A : Type 0} (test : List A → Bool) (xs : List A) → 0 < length xs → (test (take 1 xs) ≡ true) → IsShortest (and_some test) xs 1
one_is_shortest test xs l e = record {
  within = omega (arith, l);
  shorter = λ k h. none_passes test k xs h;
  reached = inl (passes_some test xs 1 (omega arith) l e);
}

-- and else it is the shortest
pub same_is_shortest : {A : Type 0} (test : List A → Bool) (xs : List A) (n : ℕ) → 0 < n → 0 < length xs → IsShortest test xs n → IsShortest (and_some test) xs n
same_is_shortest test xs n h l s = record {
  within = s.within;
  shorter = λ k m. fails_some test (take k xs) (s.shorter k m);
  reached = elim s.reached as (λ _. (and_some test (take n xs) ≡ true) ⊎ (n ≡ length xs)) [
    | inl e ↦ inl (passes_some test xs n h l e)
    | inr e ↦ inr e
  ];
}

-- one where none is needed, and else as many
pub start_is : (ns : List (Token × ℤ)) (us : List Unspent) (n m : ℕ) → AreBundles amount_in us → 0 < length us → IsShortest (suffices [] ns) us n → ((n ≡ 0) × (m ≡ 1)) ⊎ ((0 < n) × (m ≡ n)) → take m us ≡ shortest (and_some (suffices [] ns)) us
start_is ns us n m b l s (inl h) =
    let first : suffices [] ns (take 0 us) ≡ true = elim (subst (λ k. (suffices [] ns (take k us) ≡ true) ⊎ (k ≡ length us)) h.0 s.reached) [ inl e ↦ e | inr e ↦ absurd (omega (arith, e, l)) ] in
    subst (λ k. take k us ≡ shortest (and_some (suffices [] ns)) us) (sym h.1)
    (shortest_is (and_some (suffices [] ns)) us 1 (one_is_shortest (suffices [] ns) us l (suffices_longer [] ns us 0 1 b (omega arith) first)))
start_is ns us n m b l s (inr h) =
    subst (λ k. take k us ≡ shortest (and_some (suffices [] ns)) us) (sym h.1)
    (shortest_is (and_some (suffices [] ns)) us n (same_is_shortest (suffices [] ns) us n h.0 l s))
