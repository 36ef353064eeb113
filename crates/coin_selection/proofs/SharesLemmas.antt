-- The limits on two lists of outputs together.
use Rattle.std.proofs.Common.{◌≡◌, ℕ, ◌+◌, ◌-◌, ◌≤◌, Bool, true, false, ◌||◌, List, [], ◌∷◌, ◌++◌, take, drop, length, get_or, refl, sym, subst, Some, None, arith}
use Rattle.std.specs.Prelude.{nat_lt}
use Rattle.std.proofs.lemmas.Bool.Decides.{nat_tests}
use Rattle.std.proofs.lemmas.List.{length-append, take_all}
use Rattle.std.specs.FinMap.{entries}
use Rattle.builder_spec.specs.Bundle.Bundles.{plus, AllPositive}
use Rattle.builder_spec.specs.Ledger.declared.look.Unspent.{Unspent}
use Rattle.builder_spec.specs.declared.fault.BuildFault.TheVariants.{TooMany}
use Rattle.builder_spec.specs.Holding.{sums, amount_in, AreBundles}
use Rattle.builder_spec.specs.Causes.{is_much, is_over, limit_cause}
use Rattle.builder_spec.proofs.HoldingLaws.{sums_append, much_right}

or_right : (a b : Bool) → b ≡ true → a || b ≡ true
or_right true b h = refl
or_right false b h = h

neither : (a b : Bool) → a ≡ false → b ≡ false → a || b ≡ false
neither a b h k = rw h k

within : (n m : ℕ) → n ≤ m → nat_lt m n ≡ false
within n m h = grind (arith, nat_tests)

pub over_much : (us vs : List Unspent) → AreBundles amount_in us → AreBundles amount_in vs → is_much (plus (sums amount_in us) (sums amount_in vs)) ≡ true → limit_cause (us ++ vs) ≡ Some TooMany
over_much us vs p q h =
    let over : is_over (us ++ vs) ≡ true = or_right (nat_lt 256 (length (us ++ vs))) (is_much (sums amount_in (us ++ vs))) (subst (λ m. is_much m ≡ true) (sums_append amount_in us vs p q) h) in
    rw over refl

pub not_over : (us vs : List Unspent) → AreBundles amount_in us → AreBundles amount_in vs → length us + length vs ≤ 256 → is_much (plus (sums amount_in us) (sums amount_in vs)) ≡ false → limit_cause (us ++ vs) ≡ None
not_over us vs p q l h =
    let over : is_over (us ++ vs) ≡ false =
    neither (nat_lt 256 (length (us ++ vs))) (is_much (sums amount_in (us ++ vs))) (within (length (us ++ vs)) 256 (subst (λ n. n ≤ 256) (sym (length-append us vs)) l)) (subst (λ m. is_much m ≡ false) (sums_append amount_in us vs p q) h) in
    rw over refl

-- ---- the outputs of threads, and others

later : (u : Unspent) (us : List Unspent) → take (length (u ∷ us) - 1) us ≡ us
later u us = take_all (length (u ∷ us) - 1) us (omega arith)

-- where those behind the first are too much, all are
pub much_later : (us vs : List Unspent) (u : Unspent) → 1 ≤ length us → u ≡ get_or us 0 u → AllPositive (entries u.output.amount) → is_much (sums amount_in (take (length us - 1) (drop 1 us) ++ vs)) ≡ true → is_much (sums amount_in (us ++ vs)) ≡ true
much_later [] vs u l is p h = absurd (omega (arith, l))
much_later (x ∷ us) vs u l is p h =
    much_right x.output.amount (sums amount_in (us ++ vs)) (subst (λ (y : Unspent). AllPositive (entries y.output.amount)) is p) (subst (λ ys. is_much (sums amount_in (ys ++ vs)) ≡ true) (later x us) h)
