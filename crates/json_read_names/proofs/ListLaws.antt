-- Laws for readers: a list is read item by item, and a member is sought from the front.
use Rattle.std.proofs.Common.{◌≡◌, ℕ, ◌+◌, ◌<◌, List, [], ◌∷◌, ◌++◌, length, get_or, drop, map, Option, Some, Ordering, Less, Equal, Greater, Ok, Err, refl, sym, ap, ◌∙◌, append_assoc}
use Rattle.std.proofs.lemmas.List.{at_drop_more}
use Rattle.std.specs.Ordering.{match_ordering}
use Rattle.serde_json.specs.Data.{Data}
use Rattle.serde_json.specs.View.{items_of}
use Rattle.names.specs.Collections.Answers.{◌>>=◌}
use Rattle.json_read_names.specs.Parts.{Reading, both_readings, needed, all_items}

-- the reading of the rest, behind what was read before
abbrev pub with_front : {X : Type 0} → List X → Reading (List X) → Reading (List X)
with_front front read = read >>= λ x. Ok (front ++ x)

put_back : {X : Type 0} (front : List X) (x : X) (rest : Reading (List X)) → with_front (front ++ x ∷ []) rest ≡ with_front front (rest >>= λ xs. Ok (x ∷ xs))
put_back front x (Ok xs) = ap Ok (append_assoc front (x ∷ []) xs)
put_back front x (Err e) = refl

-- the step of a loop that reads the items one after another
pub front_step : {V X : Type 0} (json : V → Data) (reading : Data → Reading X) (ys zs : List X) (y : X) (vs : List V) (i : ℕ) (v : V)
    → zs ≡ ys ++ y ∷ [] → i < length vs → v ≡ get_or vs i v → reading (json v) ≡ Ok y
    → with_front zs (all_items reading (items_of (map json (drop (i + 1) vs)))) ≡ with_front ys (all_items reading (items_of (map json (drop i vs))))
front_step json reading ys zs y vs i v pushed below is read =
    let rest = all_items reading (items_of (map json (drop (i + 1) vs))) in
    let next : all_items reading (items_of (map json (drop i vs))) ≡ (reading (json v) >>= λ x. rest >>= λ xs. Ok (x ∷ xs)) =
    at_drop_more (λ us. all_items reading (items_of (map json us))) vs i v below ∙ ap (λ u. reading (json u) >>= λ x. rest >>= λ xs. Ok (x ∷ xs)) (sym is) in
    ap (λ l. with_front l rest) pushed ∙ put_back ys y rest
    ∙ ap (with_front ys) (sym (next ∙ ap (λ r. r >>= λ x. rest >>= λ xs. Ok (x ∷ xs)) read))

-- the reading of a member, by whether the key in front of it is the one that is sought
pub read_found : {X : Type 0} (o : Ordering) (later : Reading X) (next : Option Data) (d : Data) (f : Data → Reading X) → later ≡ (needed next >>= f)
    → match_ordering o later (f d) later ≡ (needed (match_ordering o next (Some d) next) >>= f)
read_found Less later next d f e = e
read_found Equal later next d f e = refl
read_found Greater later next d f e = e

-- two members are read, and then the rest
pub then_two : {A B C : Type 0} (a : Reading A) (b : Reading B) (g : A → B → Reading C) → (a >>= λ x. b >>= λ y. g x y) ≡ (both_readings a b >>= λ p. g p.0 p.1)
then_two (Ok x) (Ok y) g = refl
then_two (Ok x) (Err fault) g = refl
then_two (Err fault) b g = refl
