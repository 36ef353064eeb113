-- No output is spent twice.
use Rattle.std.proofs.Common.{◌≡◌, ℕ, zero, suc, ◌<◌, true, List, [], ◌∷◌, refl, ◌∙◌, ap, sym, subst, arith, Option, Some}
use Rattle.std.specs.List.{slice_get}
use Rattle.roles.specs.EutxoTypes.declared.spend.Spend.{Spend}
use Rattle.roles.specs.EutxoTypes.declared.tx.Tx.{Tx}
use Rattle.roles.specs.Eutxo.Laws.{FoundIsEnough}
use Rattle.roles.specs.Eutxo.Asked.{Judges}
use Rattle.roles.specs.EutxoTypes.Parts.{same_ref}
use Rattle.ledger_laws.specs.Past.{Past, before, is_input_of, unspent_at}
use Rattle.ledger_laws.specs.Sound.{IsSound}
use Rattle.ledger_laws.specs.Laws.{OutputsAreSpentOnce}
use Rattle.ledger_laws.proofs.PlainLaws.{same_some, not_both, each_at, any_at, any_taken}
use Rattle.ledger_laws.proofs.ReferenceLaws.{same_ref-refl, unspent_so}
use Rattle.ledger_laws.proofs.PairedLemmas.{pair_at}
use Rattle.ledger_laws.proofs.FreshLemmas.{Fresh, fresh}
use Rattle.ledger_laws.proofs.AcceptedLaws.{spent_at, passes_at}

-- fresh inputs name each output once
fresh_once : (xs : List Spend) → Fresh xs → (i k : ℕ) (x y : Spend) → slice_get xs i ≡ Some x → slice_get xs k ≡ Some y → x.reference ≡ y.reference → i ≡ k
fresh_once [] f i k x y a b e = cc
fresh_once (z ∷ xs) f zero zero x y a b e = refl
fresh_once (z ∷ xs) f zero (suc k) x y a b e =
    let q : z ≡ x = same_some z x a in
    absurd (not_both (subst (λ r. same_ref r y.reference ≡ true) (sym (ap (λ (s : Spend). s.reference) q ∙ e)) (same_ref-refl y.reference)) (each_at (λ s. same_ref z.reference s.reference) k xs y f.0 b))
fresh_once (z ∷ xs) f (suc i) zero x y a b e =
    let q : z ≡ y = same_some z y b in
    absurd (not_both (subst (λ r. same_ref r x.reference ≡ true) (sym (ap (λ (s : Spend). s.reference) q ∙ sym e)) (same_ref-refl x.reference)) (each_at (λ s. same_ref z.reference s.reference) i xs x f.0 a))
fresh_once (z ∷ xs) f (suc i) (suc k) x y a b e = ap suc (fresh_once xs f.1 i k x y a b e)

module _ {V : Type 0} (j : Judges V) (enough : FoundIsEnough j) (named : List ℕ → Option V) (past : Past) (sound : IsSound j named past) where
  naming : (t : Tx) (k : ℕ) (y : Spend) → slice_get t.inputs k ≡ Some y → is_input_of y.reference t ≡ true
  naming t k y b = any_at (λ x. same_ref x.reference y.reference) t.inputs k y b (same_ref-refl y.reference)

  not_again : (n m i k : ℕ) (s t : Tx) (x y : Spend) → slice_get past.accepted n ≡ Some s → slice_get past.accepted m ≡ Some t →
      slice_get s.inputs i ≡ Some x → slice_get t.inputs k ≡ Some y → x.reference ≡ y.reference → n < m → ⊥
  not_again n m i k s t x y es et a b e l =
      let z = spent_at j enough named past sound m t et in
      let f = pair_at (unspent_at (before past m)) k y t.inputs z.ys z.pairs b in
      let u = (unspent_so (before past m) y.reference f.0 f.2).0 in
      not_both (any_taken (is_input_of y.reference) past.accepted n m s l es (subst (λ r. is_input_of r s ≡ true) e (naming s i x a))) u

  pub spent_once : (n m i k : ℕ) (s t : Tx) (x y : Spend) → slice_get past.accepted n ≡ Some s → slice_get past.accepted m ≡ Some t →
      slice_get s.inputs i ≡ Some x → slice_get t.inputs k ≡ Some y → x.reference ≡ y.reference → (n ≡ m) × (i ≡ k)
  spent_once n m i k s t x y es et a b e = (place, fresh_once s.inputs (fresh s.inputs (passes_at j enough named past sound n s es).alone) i k x y a (ap (λ (z : Tx). slice_get z.inputs k) same ∙ b) e)
    where
      place : n ≡ m
      place =
          let p : n < m → ⊥ = not_again n m i k s t x y es et a b e in
          let q : m < n → ⊥ = not_again m n k i t s y x et es b a (sym e) in
          omega arith

      same : s ≡ t
      same = same_some s t (sym es ∙ ap (λ (z : ℕ). slice_get past.accepted z) place ∙ et)

pub outputs_are_spent_once : {V : Type 0} (j : Judges V) → FoundIsEnough j → OutputsAreSpentOnce j
outputs_are_spent_once j enough named past sound n m i k s t x y = spent_once j enough named past sound n m i k s t x y
