-- How much entries have of a token together, whatever their order.
use Rattle.std.proofs.Common.{◌≡◌, ℕ, ℤ, pos, negsuc, suc, ◌+◌, ◌+ℤ◌, neg_ℤ, Bool, true, false, cond, List, [], ◌∷◌, ◌++◌, Some, refl, sym, ◌∙◌, ap, arith}
use Rattle.std.proofs.Math.Dec.{T}
use Rattle.std.proofs.lemmas.Int.{ints}
use Rattle.std.proofs.lemmas.List.Sorted.{sum_by-IsPermutation}
use Rattle.std.proofs.lemmas.List.Sums.{sum_by-cons}
use Rattle.std.specs.List.{sum_by}
use Rattle.std.specs.List.Sorted.{IsPermutation}
use Rattle.std.specs.Option.{unwrap_or}
use Rattle.std.specs.Ordering.{eq_by_cmp, is_eq}
use Rattle.std.specs.declared.cmp.Ordering.TheVariants.{Less, Equal, Greater}
use Rattle.std.specs.FinMap.{entries, entries_sorted, get-entries}
use Rattle.std.specs.FinMap.Entries.{find, is_sorted, below_all}
use Rattle.contract.proofs.FromCollections.Places.{second, third, below_head, below_tail, below_equal}
use Rattle.contract.specs.Names.declared.token.Token.{Token}
use Rattle.contract.specs.Names.Orders.{token_cmp}
use Rattle.contract.specs.Names.Totals.{token_total}
use Rattle.eutxo_types.specs.Bundle.Bundles.{Amounts, amount_of}
use Rattle.eutxo_types.specs.Bundle.Totals.{total_of}
use Rattle.eutxo.specs.ChangesSupport.{signed, signed_entries, changes_of}

-- what an entry has of a token
abbrev pub share : Token → Token × ℤ → ℤ
share t e = cond (eq_by_cmp token_cmp t e.0) e.1 (pos 0)

-- what these have of it together
abbrev pub tally : Token → List (Token × ℤ) → ℤ
tally t [] = pos 0
tally t (e ∷ es) = share t e +ℤ tally t es

regroup : (a b c : ℤ) → a +ℤ (b +ℤ c) ≡ (a +ℤ b) +ℤ c
regroup a b c = omega (arith, ints)

nothing_more : (a : ℤ) → a ≡ pos 0 +ℤ a
nothing_more a = omega (arith, ints)

pub tally-append : (t : Token) (xs ys : List (Token × ℤ)) → tally t (xs ++ ys) ≡ tally t xs +ℤ tally t ys
tally-append t [] ys = nothing_more (tally t ys)
tally-append t (x ∷ xs) ys = ap (λ z. share t x +ℤ z) (tally-append t xs ys) ∙ regroup (share t x) (tally t xs) (tally t ys)

neg_sum : (a b : ℤ) → neg_ℤ a +ℤ neg_ℤ b ≡ neg_ℤ (a +ℤ b)
neg_sum a b = omega (arith, ints)

signed_sum : (made : Bool) (a b : ℤ) → signed made a +ℤ signed made b ≡ signed made (a +ℤ b)
signed_sum true a b = neg_sum a b
signed_sum false a b = refl

signed_if : (made b : Bool) (n : ℤ) → cond b (signed made n) (pos 0) ≡ signed made (cond b n (pos 0))
signed_if true true n = refl
signed_if true false n = refl
signed_if false true n = refl
signed_if false false n = refl

tally-signed : (made : Bool) (t : Token) (es : List (Token × ℤ)) → tally t (signed_entries made es) ≡ signed made (tally t es)
tally-signed true t [] = refl
tally-signed false t [] = refl
tally-signed made t (e ∷ es) =
    ap (λ z. cond (eq_by_cmp token_cmp t e.0) (signed made e.1) (pos 0) +ℤ z) (tally-signed made t es)
    ∙ ap (λ z. z +ℤ signed made (tally t es)) (signed_if made (eq_by_cmp token_cmp t e.0) e.1)
    ∙ signed_sum made (share t e) (tally t es)

-- entries of later tokens have nothing of a token
tally-later : (t : Token) (es : List (Token × ℤ)) → T (below_all token_cmp t es) → tally t es ≡ pos 0
tally-later t [] h = refl
tally-later t (e ∷ es) h =
    ap (λ r. cond (is_eq r) e.1 (pos 0) +ℤ tally t es) (below_head token_cmp t e es h)
    ∙ ap (λ z. pos 0 +ℤ z) (tally-later t es (below_tail token_cmp t e es h))

alone : (n z : ℤ) → z ≡ pos 0 → n +ℤ z ≡ n
alone n z h = omega (arith, ints)

tally-sorted : (t : Token) (es : List (Token × ℤ)) → T (is_sorted token_cmp es) → tally t es ≡ unwrap_or (find token_cmp t es) (pos 0)
tally-sorted t [] s = refl
tally-sorted t (e ∷ es) s =
    elim (token_cmp t e.0) as (λ r. token_cmp t e.0 ≡ r → cond (is_eq r) e.1 (pos 0) +ℤ tally t es ≡ unwrap_or (cond (is_eq r) (Some e.1) (find token_cmp t es)) (pos 0)) [
      | Less ↦ λ p. sym (nothing_more (tally t es)) ∙ tally-sorted t es (third _ _ s)
      | Equal ↦ λ p. alone e.1 (tally t es) (tally-later t es (below_equal token_cmp t token_total e.0 es p (second _ _ s)))
      | Greater ↦ λ p. sym (nothing_more (tally t es)) ∙ tally-sorted t es (third _ _ s)
    ] refl

tally-entries : (t : Token) (m : Amounts) → tally t (entries m) ≡ amount_of m t
tally-entries t m = tally-sorted t (entries m) (entries_sorted m) ∙ ap (λ o. unwrap_or o (pos 0)) (sym (get-entries m t))

-- the amounts of all that are held have the sum
pub tally-changes : {A : Type 0} (held : A → Amounts) (made : Bool) (t : Token) (xs : List A) → tally t (changes_of held made xs) ≡ signed made (total_of held t xs)
tally-changes held true t [] = refl
tally-changes held false t [] = refl
tally-changes held made t (x ∷ xs) =
    tally-append t (signed_entries made (entries (held x))) (changes_of held made xs)
    ∙ ap (λ z. z +ℤ tally t (changes_of held made xs)) (tally-signed made t (entries (held x)) ∙ ap (signed made) (tally-entries t (held x)))
    ∙ ap (λ z. signed made (amount_of (held x) t) +ℤ z) (tally-changes held made t xs)
    ∙ signed_sum made (amount_of (held x) t) (total_of held t xs)

-- ---- in another order

abbrev up : ℤ → ℕ
up (pos n) = n
up (negsuc n) = 0

abbrev down : ℤ → ℕ
down (pos n) = 0
down (negsuc n) = suc n

whole : (n : ℕ) → pos n ≡ pos n +ℤ pos 0
whole n = omega (arith, ints)

below : (n : ℕ) → negsuc n ≡ pos 0 +ℤ neg_ℤ (pos (suc n))
below n = omega (arith, ints)

parted : (z : ℤ) → z ≡ pos (up z) +ℤ neg_ℤ (pos (down z))
parted (pos n) = whole n
parted (negsuc n) = below n

joined : (a b c d : ℕ) (x z : ℤ) → x ≡ pos a +ℤ neg_ℤ (pos b) → z ≡ pos c +ℤ neg_ℤ (pos d) → x +ℤ z ≡ pos (a + c) +ℤ neg_ℤ (pos (b + d))
joined a b c d x z p q = omega (arith, ints)

tally-parts : (t : Token) (es : List (Token × ℤ)) → tally t es ≡ pos (sum_by (λ e. up (share t e)) es) +ℤ neg_ℤ (pos (sum_by (λ e. down (share t e)) es))
tally-parts t [] = refl
tally-parts t (e ∷ es) =
    joined (up (share t e)) (down (share t e)) (sum_by (λ x. up (share t x)) es) (sum_by (λ x. down (share t x)) es) (share t e) (tally t es) (parted (share t e)) (tally-parts t es)
    ∙ ap (λ n. pos n +ℤ neg_ℤ (pos (down (share t e) + sum_by (λ x. down (share t x)) es))) (sym (sum_by-cons (λ x. up (share t x)) e es))
    ∙ ap (λ n. pos (sum_by (λ x. up (share t x)) (e ∷ es)) +ℤ neg_ℤ (pos n)) (sym (sum_by-cons (λ x. down (share t x)) e es))

pub tally-permutation : (t : Token) (xs ys : List (Token × ℤ)) → IsPermutation xs ys → tally t ys ≡ tally t xs
tally-permutation t xs ys p =
    tally-parts t ys
    ∙ ap (λ n. pos n +ℤ neg_ℤ (pos (sum_by (λ e. down (share t e)) ys))) (sum_by-IsPermutation (λ e. up (share t e)) xs ys p)
    ∙ ap (λ n. pos (sum_by (λ e. up (share t e)) xs) +ℤ neg_ℤ (pos n)) (sum_by-IsPermutation (λ e. down (share t e)) xs ys p)
    ∙ sym (tally-parts t xs)
