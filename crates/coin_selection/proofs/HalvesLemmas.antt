-- Sums of the halves of a list.
use Rattle.std.proofs.Common.{◌≡◌, ℕ, ◌<◌, ◌≤◌, ◌+ℤ◌, true, List, [], ◌∷◌, ◌++◌, length, take, drop, get_or, sym, ◌∙◌, ap, subst, arith}
use Rattle.std.proofs.lemmas.List.{take-append-drop}
use Rattle.std.specs.FinMap.{entries}
use Rattle.builder_spec.specs.Bundle.Bundles.{Amounts, AllPositive, each, plus}
use Rattle.builder_spec.specs.Holding.{sums, AreBundles}
use Rattle.builder_spec.specs.Causes.{is_much}
use Rattle.builder_spec.proofs.HoldingLaws.{entries-empty, sums_append, positive_sums, much_left, much_right}
use Rattle.coin_selection.proofs.ListLaws.{here}

-- one holds what it holds
pub one_sum : {A : Type 0} (held : A → Amounts) (x : A) → sums held (x ∷ []) ≡ held x
one_sum held x = ap (each (λ m n. m +ℤ n) (held x)) entries-empty

pub halves : {A : Type 0} (held : A → Amounts) (xs ys : List A) → AreBundles held (xs ++ ys) → AreBundles held xs × AreBundles held ys
halves held [] ys h = (tt, h)
halves held (x ∷ xs) ys h = ((h.0, (halves held xs ys h.1).0), (halves held xs ys h.1).1)

-- both halves of a list
pub in_halves : {A : Type 0} (held : A → Amounts) (n : ℕ) (xs : List A) → AreBundles held xs → AreBundles held (take n xs) × AreBundles held (drop n xs)
in_halves held n xs h = halves held (take n xs) (drop n xs) (subst (AreBundles held) (sym (take-append-drop n xs)) h)

sum_halves : {A : Type 0} (held : A → Amounts) (n : ℕ) (xs : List A) → AreBundles held xs → plus (sums held (take n xs)) (sums held (drop n xs)) ≡ sums held xs
sum_halves held n xs h =
    let b = in_halves held n xs h in
    sums_append held (take n xs) (drop n xs) b.0 b.1 ∙ ap (sums held) (take-append-drop n xs)

-- the sums of both halves are together the sum of all
pub joined : {A : Type 0} (held : A → Amounts) (n : ℕ) (xs ys zs : List A) (a b : Amounts) → ys ≡ take n xs → zs ≡ drop n xs → AreBundles held xs → a ≡ sums held ys → b ≡ sums held zs → plus a b ≡ sums held xs
joined held n xs ys zs a b front back h p q =
    ap (λ s. plus s b) (p ∙ ap (sums held) front) ∙ ap (plus (sums held (take n xs))) (q ∙ ap (sums held) back) ∙ sum_halves held n xs h

-- what is too much in a half is too much
pub much_first : {A : Type 0} (held : A → Amounts) (n : ℕ) (xs ys : List A) → ys ≡ take n xs → AreBundles held xs → is_much (sums held ys) ≡ true → is_much (sums held xs) ≡ true
much_first held n xs ys e h m =
    let b = in_halves held n xs h in
    subst (λ s. is_much s ≡ true) (sum_halves held n xs h) (much_left (sums held (take n xs)) (sums held (drop n xs)) (positive_sums held (drop n xs) b.1) (subst (λ zs. is_much (sums held zs) ≡ true) e m))

pub much_others : {A : Type 0} (held : A → Amounts) (n : ℕ) (xs ys : List A) → ys ≡ drop n xs → AreBundles held xs → is_much (sums held ys) ≡ true → is_much (sums held xs) ≡ true
much_others held n xs ys e h m =
    let b = in_halves held n xs h in
    subst (λ s. is_much s ≡ true) (sum_halves held n xs h) (much_right (sums held (take n xs)) (sums held (drop n xs)) (positive_sums held (take n xs) b.0) (subst (λ zs. is_much (sums held zs) ≡ true) e m))

pub single : {A : Type 0} (xs : List A) (x : A) → 1 ≤ length xs → length xs ≤ 1 → x ≡ get_or xs 0 x → xs ≡ x ∷ []
single [] x h k e = absurd (omega (arith, h))
single (y ∷ []) x h k e = ap (λ z. z ∷ []) (sym e)
single (y ∷ z ∷ xs) x h k e = absurd (omega (arith, k))

-- what each of them holds is above 0
pub bundle_at : {A : Type 0} (held : A → Amounts) (xs : List A) (i : ℕ) (x : A) → i < length xs → x ≡ get_or xs i x → AreBundles held xs → AllPositive (entries (held x))
bundle_at held xs i x l is h = (subst (AreBundles held) (here xs i x l is) (in_halves held i xs h).1).0
