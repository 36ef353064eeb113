-- What holdings come to.
use Rattle.std.proofs.Common.{◌≡◌, ℕ, ℤ, pos, negsuc, zero, suc, ◌+◌, ◌<◌, ◌+ℤ◌, ◌-ℤ◌, neg_ℤ, ◌<ℤ◌, ◌≤ℤ◌, Bool, true, false, cond, List, [], ◌∷◌, ◌++◌, map, length, get_or, Some, All, refl, sym, ◌∙◌, ap, arith}
use Rattle.std.proofs.Math.Dec.{T}
use Rattle.std.proofs.lemmas.Int.{ints}
use Rattle.std.proofs.lemmas.List.Sorted.{sum_by-IsPermutation, All-permutation}
use Rattle.std.proofs.lemmas.List.Elements.{All-cons}
use Rattle.std.proofs.lemmas.List.Sums.{sum_by-cons}
use Rattle.std.specs.List.{sum_by, flat_map}
use Rattle.std.specs.List.Sorted.{IsPermutation}
use Rattle.std.specs.Option.{unwrap_or}
use Rattle.std.specs.Ordering.{is_eq}
use Rattle.std.specs.declared.cmp.Ordering.TheVariants.{Less, Equal, Greater}
use Rattle.std.specs.FinMap.{entries, entries_sorted, get-entries}
use Rattle.std.specs.FinMap.Entries.{find, is_sorted, below_all}
use Rattle.eutxo.specs.Collections.Positive.{AllPositive}
use Rattle.eutxo.specs.Collections.Total.{total}
use Rattle.eutxo.proofs.FromCollections.Places.{second, third, below_head, below_tail, below_equal}
use Rattle.eutxo.specs.Names.declared.token.Token.{Token}
use Rattle.eutxo.specs.Names.Orders.{token_cmp}
use Rattle.eutxo.specs.Names.Totals.{token_total}
use Rattle.eutxo.specs.Bundle.Bundles.{Amounts, amount_of}
use Rattle.eutxo.specs.Bundle.Totals.{total_of}
use Rattle.eutxo.specs.EutxoTypes.declared.output.Output.{Output}
use Rattle.eutxo.specs.EutxoTypes.declared.output_ref.OutputRef.{OutputRef}
use Rattle.play_holdings.specs.declared.holder.Holder.{Holder}
use Rattle.play_holdings.specs.declared.holding.Holding.{Holding}
use Rattle.play_holdings.specs.Holdings.{come_to, of_token, holding_of, holder_under, held_in, AllAbove}

-- ---- above 0

pub above_more : (xs ys : List Holding) → AllAbove xs → AllAbove ys → AllAbove (xs ++ ys)
above_more [] ys a b = b
above_more (x ∷ xs) ys a b = (a.0, above_more xs ys a.1 b)

pub above_so : (holder : Holder) (es : List (Token × ℤ)) → AllPositive es → AllAbove (map (holding_of holder) es)
above_so holder [] h = tt
above_so holder (e ∷ es) h = (h.0, above_so holder es h.1)

abbrev IsAbove : Holding → Type 0
IsAbove h = pos 0 <ℤ h.amount

each_above : (hs : List Holding) → AllAbove hs → All IsAbove hs
each_above [] a = λ i d l. absurd (omega (arith, l))
each_above (h ∷ hs) a = All-cons IsAbove h hs a.0 (each_above hs a.1)

all_above : (hs : List Holding) → All IsAbove hs → AllAbove hs
all_above [] a = tt
all_above (h ∷ hs) a = (a zero h (omega arith), all_above hs (λ i d l. a (suc i) d (omega (arith, l))))

pub above_moved : (xs ys : List Holding) → IsPermutation xs ys → AllAbove xs → AllAbove ys
above_moved xs ys p a = all_above ys (All-permutation IsAbove xs ys p (each_above xs a))

-- ---- sums

regroup : (a b c : ℤ) → a +ℤ (b +ℤ c) ≡ (a +ℤ b) +ℤ c
regroup a b c = omega (arith, ints)

nothing_more : (a : ℤ) → a ≡ pos 0 +ℤ a
nothing_more a = omega (arith, ints)

alone : (n z : ℤ) → z ≡ pos 0 → n +ℤ z ≡ n
alone n z h = omega (arith, ints)

-- what one counts where it is asked for
abbrev pub share : (Holder → Token → Bool) → Holding → ℤ
share asked h = cond (asked h.holder h.token) h.amount (pos 0)

pub come_to-append : (asked : Holder → Token → Bool) (xs ys : List Holding) → come_to asked (xs ++ ys) ≡ come_to asked xs +ℤ come_to asked ys
come_to-append asked [] ys = nothing_more (come_to asked ys)
come_to-append asked (x ∷ xs) ys = ap (λ z. share asked x +ℤ z) (come_to-append asked xs ys) ∙ regroup (share asked x) (come_to asked xs) (come_to asked ys)

no_less : (a b : ℤ) → pos 0 ≤ℤ a → pos 0 ≤ℤ b → pos 0 ≤ℤ (a +ℤ b)
no_less a b h k = omega (arith, ints)

no_less_here : (b : Bool) (n : ℤ) → pos 0 <ℤ n → pos 0 ≤ℤ cond b n (pos 0)
no_less_here true n h = omega (arith, ints)
no_less_here false n h = omega (arith, ints)

pub share_natural : (asked : Holder → Token → Bool) (h : Holding) → pos 0 <ℤ h.amount → pos 0 ≤ℤ share asked h
share_natural asked h a = no_less_here (asked h.holder h.token) h.amount a

zero_natural : pos 0 ≤ℤ pos 0
zero_natural = omega (arith, ints)

pub natural : (asked : Holder → Token → Bool) (hs : List Holding) → AllAbove hs → pos 0 ≤ℤ come_to asked hs
natural asked [] a = zero_natural
natural asked (h ∷ hs) a = no_less (share asked h) (come_to asked hs) (share_natural asked h a.0) (natural asked hs a.1)

-- ---- what outputs hold of a token

later : (t : Token) (holder : Holder) (es : List (Token × ℤ)) → T (below_all token_cmp t es) → come_to (of_token t) (map (holding_of holder) es) ≡ pos 0
later t holder [] h = refl
later t holder (e ∷ es) h =
    ap (λ r. cond (is_eq r) e.1 (pos 0) +ℤ come_to (of_token t) (map (holding_of holder) es)) (below_head token_cmp t e es h)
    ∙ ap (λ z. pos 0 +ℤ z) (later t holder es (below_tail token_cmp t e es h))

sorted : (t : Token) (holder : Holder) (es : List (Token × ℤ)) → T (is_sorted token_cmp es) → come_to (of_token t) (map (holding_of holder) es) ≡ unwrap_or (find token_cmp t es) (pos 0)
sorted t holder [] s = refl
sorted t holder (e ∷ es) s =
    elim (token_cmp t e.0) as (λ r. token_cmp t e.0 ≡ r → cond (is_eq r) e.1 (pos 0) +ℤ come_to (of_token t) (map (holding_of holder) es) ≡ unwrap_or (cond (is_eq r) (Some e.1) (find token_cmp t es)) (pos 0)) [
      | Less ↦ λ p. sym (nothing_more (come_to (of_token t) (map (holding_of holder) es))) ∙ sorted t holder es (third _ _ s)
      | Equal ↦ λ p. alone e.1 (come_to (of_token t) (map (holding_of holder) es)) (later t holder es (below_equal token_cmp t token_total e.0 es p (second _ _ s)))
      | Greater ↦ λ p. sym (nothing_more (come_to (of_token t) (map (holding_of holder) es))) ∙ sorted t holder es (third _ _ s)
    ] refl

in_amounts : (t : Token) (holder : Holder) (m : Amounts) → come_to (of_token t) (map (holding_of holder) (entries m)) ≡ amount_of m t
in_amounts t holder m = sorted t holder (entries m) (entries_sorted m) ∙ ap (λ o. unwrap_or o (pos 0)) (sym (get-entries m t))

-- one by one they come to what the outputs hold
pub in_outputs : (ends : List _) (t : Token) (es : List (OutputRef × Output)) → come_to (of_token t) (flat_map (held_in ends) es) ≡ total_of (λ (e : OutputRef × Output). e.1.amount) t es
in_outputs ends t [] = refl
in_outputs ends t (e ∷ es) =
    come_to-append (of_token t) (held_in ends e) (flat_map (held_in ends) es)
    ∙ ap (λ z. z +ℤ come_to (of_token t) (flat_map (held_in ends) es)) (in_amounts t (holder_under ends e.0 e.1.lock) e.1.amount)
    ∙ ap (λ z. amount_of e.1.amount t +ℤ z) (in_outputs ends t es)

-- ---- in another order

abbrev up : ℤ → ℕ
up (pos n) = n
up (negsuc n) = 0

abbrev down : ℤ → ℕ
down (pos n) = 0
down (negsuc n) = suc n

whole : (n : ℕ) → pos n ≡ pos n +ℤ pos 0
whole n = omega (arith, ints)

below : (n : ℕ) → negsuc n ≡ pos 0 +ℤ neg_ℤ (pos (suc n))
below n = omega (arith, ints)

parted : (z : ℤ) → z ≡ pos (up z) +ℤ neg_ℤ (pos (down z))
parted (pos n) = whole n
parted (negsuc n) = below n

together : (a b c d : ℕ) (x z : ℤ) → x ≡ pos a +ℤ neg_ℤ (pos b) → z ≡ pos c +ℤ neg_ℤ (pos d) → x +ℤ z ≡ pos (a + c) +ℤ neg_ℤ (pos (b + d))
together a b c d x z p q = omega (arith, ints)

parts : {X : Type 0} (f : X → ℤ) (xs : List X) → total f xs ≡ pos (sum_by (λ x. up (f x)) xs) +ℤ neg_ℤ (pos (sum_by (λ x. down (f x)) xs))
parts f [] = refl
parts f (x ∷ xs) =
    together (up (f x)) (down (f x)) (sum_by (λ y. up (f y)) xs) (sum_by (λ y. down (f y)) xs) (f x) (total f xs) (parted (f x)) (parts f xs)
    ∙ ap (λ n. pos n +ℤ neg_ℤ (pos (down (f x) + sum_by (λ y. down (f y)) xs))) (sym (sum_by-cons (λ y. up (f y)) x xs))
    ∙ ap (λ n. pos (sum_by (λ y. up (f y)) (x ∷ xs)) +ℤ neg_ℤ (pos n)) (sym (sum_by-cons (λ y. down (f y)) x xs))

moved : {X : Type 0} (f : X → ℤ) (xs ys : List X) → IsPermutation xs ys → total f ys ≡ total f xs
moved f xs ys p =
    parts f ys
    ∙ ap (λ n. pos n +ℤ neg_ℤ (pos (sum_by (λ y. down (f y)) ys))) (sum_by-IsPermutation (λ y. up (f y)) xs ys p)
    ∙ ap (λ n. pos (sum_by (λ y. up (f y)) xs) +ℤ neg_ℤ (pos n)) (sum_by-IsPermutation (λ y. down (f y)) xs ys p)
    ∙ sym (parts f xs)

pub come_to_moved : (asked : Holder → Token → Bool) (xs ys : List Holding) → IsPermutation xs ys → come_to asked ys ≡ come_to asked xs
come_to_moved asked xs ys p = moved (λ (h : Holding). share asked h) xs ys p
