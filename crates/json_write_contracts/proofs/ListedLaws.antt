-- Laws for writers: a list is written item by item.
use Rattle.std.proofs.Common.{◌≡◌, ℕ, ◌+◌, ◌<◌, List, [], ◌∷◌, ◌++◌, length, get_or, take, map, refl, sym, ap, ◌∙◌, add-one, append_assoc, append-nil, ◌≤◌, take_all, Bool, true, ◌&&◌}
use Rattle.std.proofs.Math.Seq.{take-suc}
use Rattle.std.proofs.lemmas.List.{get_or_default}
use Rattle.std.proofs.lemmas.List.Folds.{list_all-append}
use Rattle.std.specs.List.{list_all}
use Rattle.json.specs.Token.{Token}
use Rattle.json.specs.Written.{Written}
use Rattle.json.specs.Tree.{items_tokens}
use Rattle.serde_json.specs.Data.{Data}
use Rattle.serde_json.specs.View.{items_of}
use Rattle.serde_json.specs.Written.{items_outline}
use Rattle.json_write_contracts.specs.Tokens.{Adds, data_tokens}
use Rattle.json_write_contracts.proofs.AddsLaws.{then}

-- the tokens of the items, without the closing bracket
abbrev pub front : List Data → List Token
front [] = []
front (d ∷ ds) = data_tokens d ++ front ds

-- with it
pub front-closed : (ds : List Data) → front ds ++ Token.end_array ∷ [] ≡ items_tokens (items_outline (items_of ds))
front-closed [] = refl
front-closed (d ∷ ds) = append_assoc (data_tokens d) (front ds) (Token.end_array ∷ []) ∙ ap (λ ts. data_tokens d ++ ts) (front-closed ds)

front-push : (ds : List Data) (d : Data) → front (ds ++ d ∷ []) ≡ front ds ++ data_tokens d
front-push [] d = append-nil (data_tokens d)
front-push (e ∷ ds) d = ap (λ ts. data_tokens e ++ ts) (front-push ds d) ∙ sym (append_assoc (data_tokens e) (front ds) (data_tokens d))

pub map-push : {A B : Type 0} (f : A → B) (xs : List A) (x : A) → map f (xs ++ x ∷ []) ≡ map f xs ++ f x ∷ []
map-push f [] x = refl
map-push f (y ∷ xs) x = ap (λ zs. f y ∷ zs) (map-push f xs x)

pub take-more : {X : Type 0} (xs : List X) (i : ℕ) (x : X) → i < length xs → x ≡ get_or xs i x → take (i + 1) xs ≡ take i xs ++ x ∷ []
take-more xs i x below is = rw (add-one i) (take-suc xs i x below) ∙ ap (λ y. take i xs ++ y ∷ []) (sym is)

-- one more is written
pub listed : {X : Type 0} (f : X → Data) (xs : List X) (i : ℕ) (x : X) (a b c : Written) → i < length xs → x ≡ get_or xs i x
    → Adds a b (front (map f (take i xs))) → Adds b c (data_tokens (f x)) → Adds a c (front (map f (take (i + 1) xs)))
listed f xs i x a b c below is before here =
    let both = then before here in
    let same : front (map f (take (i + 1) xs)) ≡ front (map f (take i xs)) ++ data_tokens (f x) =
    ap (λ ys. front (map f ys)) (take-more xs i x below is) ∙ ap front (map-push f (take i xs) x) ∙ front-push (map f (take i xs)) (f x) in
    record { tokens = both.tokens ∙ ap (λ ts. a.tokens ++ ts) (sym same); before = both.before }

-- all are written, between brackets
pub closed : {X : Type 0} (f : X → Data) (all xs : List X) (i : ℕ) (a b c d : Written) → xs ≡ all → length xs ≤ i
    → Adds a b (Token.begin_array ∷ []) → Adds b c (front (map f (take i xs))) → Adds c d (Token.end_array ∷ []) → Adds a d (Token.begin_array ∷ items_tokens (items_outline (items_of (map f all))))
closed f all xs i a b c d same over opened so_far ended =
    let whole = then opened (then so_far ended) in
    let is : front (map f (take i xs)) ++ Token.end_array ∷ [] ≡ items_tokens (items_outline (items_of (map f all))) =
    ap (λ ys. front (map f ys) ++ Token.end_array ∷ []) (take_all i xs over ∙ same) ∙ front-closed (map f all) in
    record { tokens = whole.tokens ∙ ap (λ ts. a.tokens ++ Token.begin_array ∷ ts) is; before = whole.before }

-- one more passes
pub all-more : {X : Type 0} (p : X → Bool) (xs : List X) (i : ℕ) (x : X) → i < length xs → x ≡ get_or xs i x → p x ≡ true → list_all p (take i xs) ≡ true → list_all p (take (i + 1) xs) ≡ true
all-more p xs i x below is here before =
    ap (list_all p) (take-more xs i x below is) ∙ list_all-append p (take i xs) (x ∷ []) ∙ (λ j. before j && (here j && true))

-- all have passed
pub all-over : {X : Type 0} (p : X → Bool) (all xs : List X) (i : ℕ) → xs ≡ all → length xs ≤ i → list_all p (take i xs) ≡ true → list_all p all ≡ true
all-over p all xs i same over passed = sym (ap (list_all p) (take_all i xs over ∙ same)) ∙ passed

-- the same of an item that is copied out of the list
pub all-more-at : {X : Type 0} (d : X) (p : X → Bool) (xs : List X) (i : ℕ) → i < length xs → p (get_or xs i d) ≡ true → list_all p (take i xs) ≡ true → list_all p (take (i + 1) xs) ≡ true
all-more-at d p xs i below here before = all-more p xs i (get_or xs i d) below (get_or_default xs i d (get_or xs i d) below) here before

pub listed-at : {X : Type 0} (d : X) (f : X → Data) (xs : List X) (i : ℕ) (a b c : Written) → i < length xs
    → Adds a b (front (map f (take i xs))) → Adds b c (data_tokens (f (get_or xs i d))) → Adds a c (front (map f (take (i + 1) xs)))
listed-at d f xs i a b c below before here = listed f xs i (get_or xs i d) a b c below (get_or_default xs i d (get_or xs i d) below) before here
