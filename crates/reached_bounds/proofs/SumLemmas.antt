-- Sums over lists, item by item.
use Rattle.std.proofs.Common.{◌≡◌, ℕ, ◌+◌, ◌<◌, ◌≤◌, ℤ, pos, ◌+ℤ◌, List, [], ◌∷◌, ◌++◌, length, get_or, drop, sym, ap, ◌∙◌, arith}
use Rattle.std.proofs.lemmas.Int.{ints}
use Rattle.std.proofs.lemmas.List.{at_drop_more, at_drop_all}
use Rattle.contract.specs.Collections.Total.{total}

grouped : (w s f r n : ℤ) → w ≡ s +ℤ (f +ℤ r) → n ≡ s +ℤ f → w ≡ n +ℤ r
grouped w s f r n e h = omega (arith, ints, e, h)

ended : (w s : ℤ) → w ≡ s +ℤ pos 0 → s ≡ w
ended w s e = omega (arith, ints, e)

begun : (w : ℤ) → w ≡ pos 0 +ℤ w
begun w = omega (arith, ints)

-- before the first, one item more, and behind the last
pub none_added : {X : Type 0} (f : X → ℤ) (xs : List X) → total f xs ≡ pos 0 +ℤ total f xs
none_added f xs = begun (total f xs)

pub one_added : {X : Type 0} (f : X → ℤ) (xs : List X) (i : ℕ) (x : X) (whole sum next : ℤ) → i < length xs → x ≡ get_or xs i x → whole ≡ sum +ℤ total f (drop i xs) → next ≡ sum +ℤ f x → whole ≡ next +ℤ total f (drop (i + 1) xs)
one_added f xs i x whole sum next l is e h =
    grouped whole sum (f x) (total f (drop (i + 1) xs)) next
    (e ∙ ap (λ z. sum +ℤ z) (at_drop_more (total f) xs i x l ∙ ap (λ y. f y +ℤ total f (drop (i + 1) xs)) (sym is))) h

pub all_added : {X : Type 0} (f : X → ℤ) (xs : List X) (i : ℕ) (whole sum : ℤ) → length xs ≤ i → whole ≡ sum +ℤ total f (drop i xs) → sum ≡ whole
all_added f xs i whole sum l e = ended whole sum (e ∙ ap (λ z. sum +ℤ z) (at_drop_all (total f) xs i l))

joined : (a b c d : ℤ) → a ≡ b +ℤ c → d +ℤ a ≡ (d +ℤ b) +ℤ c
joined a b c d e = omega (arith, ints, e)

pub total_append : {X : Type 0} (f : X → ℤ) (xs ys : List X) → total f (xs ++ ys) ≡ total f xs +ℤ total f ys
total_append f [] ys = begun (total f ys)
total_append f (x ∷ xs) ys = joined (total f (xs ++ ys)) (total f xs) (total f ys) (f x) (total_append f xs ys)
