-- What is printed: a list item by item, where what was printed and what is left to print are one text; and what is printed at once.
use Rattle.std.proofs.Common.{◌≡◌, ℕ, ◌+◌, ◌<◌, ◌≤◌, List, ◌∷◌, ◌++◌, length, get_or, drop, map, sym, ap, ◌∙◌, append_assoc, codes, subst, Result, Ok, Err, is_ok, OnOk, if◌then◌else◌}
use Rattle.std.proofs.lemmas.List.{at_drop_more, at_drop_all}
use Rattle.table_lines.specs.TableLines.{listed_on, in_brackets}

-- ---- items in brackets

-- two texts behind a first one, and what is left
behind : (a b c s t r : List ℕ) → b ≡ a ++ s → c ≡ b ++ t → c ++ r ≡ a ++ (s ++ (t ++ r))
behind a b c s t r first second =
    ap (λ w. w ++ r) (second ∙ ap (λ w. w ++ t) first) ∙ append_assoc (a ++ s) t r ∙ append_assoc a s (t ++ r)

-- a comma and an item were printed
pub item-more : {X : Type 0} (f : X → List ℕ) (xs : List X) (i : ℕ) (x : X) (a b c whole : List ℕ) → i < length xs → x ≡ get_or xs i x → b ≡ a ++ codes "," → c ≡ b ++ f x
    → a ++ listed_on (map f (drop i xs)) ≡ whole → c ++ listed_on (map f (drop (i + 1) xs)) ≡ whole
item-more f xs i x a b c whole below is comma item before =
    behind a b c (codes ",") (f x) (listed_on (map f (drop (i + 1) xs))) comma item
    ∙ ap (λ y. a ++ (codes "," ++ (f y ++ listed_on (map f (drop (i + 1) xs))))) is
    ∙ sym (at_drop_more (λ ys. a ++ listed_on (map f ys)) xs i x below)
    ∙ before

-- all were, and the bracket
pub items-over : {X : Type 0} (f : X → List ℕ) (xs : List X) (i : ℕ) (a b whole : List ℕ) → length xs ≤ i → b ≡ a ++ codes "]" → a ++ listed_on (map f (drop i xs)) ≡ whole → b ≡ whole
items-over f xs i a b whole over bracket before = bracket ∙ sym (at_drop_all (λ ys. a ++ listed_on (map f ys)) xs i over) ∙ before

-- all items of a list, the first behind the opening bracket
pub items-whole : {X : Type 0} (f : X → List ℕ) (all xs : List X) (x : X) (a b c : List ℕ) → a ≡ codes "[" → b ≡ a ++ f x → all ≡ x ∷ xs → c ≡ b ++ listed_on (map f xs)
    → c ≡ in_brackets (map f all)
items-whole f all xs x a b c opened first is rest =
    rest ∙ ap (λ w. w ++ listed_on (map f xs)) (first ∙ ap (λ w. w ++ f x) opened) ∙ ap (λ ys. in_brackets (map f ys)) (sym is)

-- ---- what is printed at once

-- a text that was printed is the one that is said
pub printed-as : {E : Type 0} (r : Result (Unit {0}) E) (old new text said : List ℕ) → text ≡ said → OnOk r (new ≡ old ++ text) → OnOk r (new ≡ old ++ said)
printed-as r old new text said same printed = subst (λ w. OnOk r (new ≡ old ++ w)) same printed

-- the same behind a push, which says what it leaves in either case
pub pushed-as : {E : Type 0} (r : Result (Unit {0}) E) (old new text said : List ℕ) → text ≡ said → new ≡ (if is_ok r then old ++ text else old) → OnOk r (new ≡ old ++ said)
pushed-as (Ok done) old new text said same pushed = pushed ∙ ap (λ w. old ++ w) same
pushed-as (Err fault) old new text said same pushed = tt
