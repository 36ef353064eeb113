-- Laws for writers: what holds of each item, item by item.
use Rattle.std.proofs.Common.{◌≡◌, ℕ, ◌+◌, ◌<◌, ◌≤◌, List, [], ◌∷◌, ◌++◌, length, get_or, take, take_all, sym, subst}
use Rattle.json_write_contracts.proofs.ListedLaws.{take-more}
use Rattle.json_write_outcomes.specs.Each.{Each}

each-push : {X : Type 0} (P : X → Type 0) (xs : List X) (x : X) → Each P xs → P x → Each P (xs ++ x ∷ [])
each-push P [] x h i = (i, tt)
each-push P (y ∷ xs) x h i = (h.0, each-push P xs x h.1 i)

-- one more
pub each-more : {X : Type 0} (P : X → Type 0) (xs : List X) (i : ℕ) (x : X) → i < length xs → x ≡ get_or xs i x → P x → Each P (take i xs) → Each P (take (i + 1) xs)
each-more P xs i x below is here before = subst (Each P) (sym (take-more xs i x below is)) (each-push P (take i xs) x before here)

-- all
pub each-over : {X : Type 0} (P : X → Type 0) (xs : List X) (i : ℕ) → length xs ≤ i → Each P (take i xs) → Each P xs
each-over P xs i over h = subst (Each P) (take_all i xs over) h

-- all of a list that is the same
pub each-over-same : {X : Type 0} (P : X → Type 0) (all xs : List X) (i : ℕ) → xs ≡ all → length xs ≤ i → Each P (take i xs) → Each P all
each-over-same P all xs i same over h = subst (Each P) same (each-over P xs i over h)
