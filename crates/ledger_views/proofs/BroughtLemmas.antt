-- The datum that is brought for an output, found by counting the inputs before it that step.
use Rattle.std.proofs.Common.{◌≡◌, ℕ, zero, suc, ◌+◌, ◌<◌, Bool, true, false, List, [], ◌∷◌, refl, sym, ◌∙◌, ap, arith, Option, drop, length, get_or}
use Rattle.std.specs.Prelude.{if◌then◌else◌}
use Rattle.std.specs.List.{slice_get}
use Rattle.std.proofs.lemmas.List.{at_drop_more}
use Rattle.ledger_kept.specs.Machine.declared.datum.Datum.{Datum}
use Rattle.ledger_kept.specs.EutxoTypes.declared.output_ref.OutputRef.{OutputRef}
use Rattle.ledger_kept.specs.EutxoTypes.declared.spend.Spend.{Spend}
use Rattle.ledger_kept.specs.EutxoTypes.Parts.{same_ref, is_step}
use Rattle.ledger_kept.specs.LedgerLaws.Threads.{brought_to}

one_dropped : {A : Type 0} (n : ℕ) (xs : List A) → drop 1 (drop n xs) ≡ drop (suc n) xs
one_dropped zero [] = refl
one_dropped (suc n) [] = refl
one_dropped zero (x ∷ xs) = refl
one_dropped (suc n) (x ∷ xs) = one_dropped n xs

first_dropped : {A : Type 0} (n : ℕ) (xs : List A) → slice_get (drop n xs) 0 ≡ slice_get xs n
first_dropped zero [] = refl
first_dropped (suc n) [] = refl
first_dropped zero (x ∷ xs) = refl
first_dropped (suc n) (x ∷ xs) = first_dropped n xs

pub left_at : (xs : List Spend) (i : ℕ) (x : Spend) → i < length xs → x ≡ get_or xs i x → drop i xs ≡ x ∷ drop (i + 1) xs
left_at xs i x h e = at_drop_more (λ m. m) xs i x h ∙ ap (λ (y : Spend). y ∷ drop (i + 1) xs) (sym e)

one_more : (n : ℕ) → suc n ≡ n + 1
one_more n = omega arith

module _ (r : OutputRef) (x : Spend) (xs : List Spend) (n : ℕ) (ds : List Datum) where
  abbrev there : Bool → Bool → Option Datum
  there b s = if b then slice_get (drop n ds) 0 else brought_to r xs (if s then drop 1 (drop n ds) else drop n ds)

  -- for the output of this input it is the next of the data
  pub here : same_ref x.reference r ≡ true → brought_to r (x ∷ xs) (drop n ds) ≡ slice_get ds n
  here e = ap (λ (b : Bool). there b (is_step x.redeemer)) e ∙ first_dropped n ds

  -- one that steps another has a datum of its own
  pub behind_step : same_ref x.reference r ≡ false → is_step x.redeemer ≡ true → brought_to r (x ∷ xs) (drop n ds) ≡ brought_to r xs (drop (n + 1) ds)
  behind_step e s = ap (λ (b : Bool). there b (is_step x.redeemer)) e ∙ ap (there false) s ∙ ap (brought_to r xs) (one_dropped n ds ∙ ap (λ (m : ℕ). drop m ds) (one_more n))

  -- and one that steps nothing has none
  pub behind_other : same_ref x.reference r ≡ false → is_step x.redeemer ≡ false → brought_to r (x ∷ xs) (drop n ds) ≡ brought_to r xs (drop n ds)
  behind_other e s = ap (λ (b : Bool). there b (is_step x.redeemer)) e ∙ ap (there false) s
