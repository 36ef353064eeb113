-- Members of an object, one after another.
use Rattle.std.proofs.Common.{◌≡◌, ℕ, zero, suc, ◌+◌, ◌<◌, ◌≤◌, Bool, true, false, cond, List, [], ◌∷◌, length, get_or, drop, map, Option, Some, None, option_map, sym, ap, ◌∙◌, refl}
use Rattle.std.proofs.lemmas.List.{drop_more, drop_all}
use Rattle.std.proofs.Common.{Vec, Global, rules, slice_get, arith}
use Rattle.std.proofs.lemmas.Option.{slice_get-get_or}
use Rattle.names.specs.Equal.{same_text}
use Rattle.json_tree.specs.declared.tree.Json.{Json, the_lemmas}
use Rattle.json_tree.specs.declared.tree.Json as json
use Rattle.json_tree.specs.declared.tree.Json.TheOpen.{Json-F}
use Rattle.explanations.specs.Indexes.{Member, opened, keys_by, keys_in, last_from, member_by, with_index, item_by}

-- what is seen of a choice
pub chosen : {X Y : Type 0} (f : X → Y) (b : Bool) (x : X) (o : Option X) → option_map f (cond b (Some x) o) ≡ cond b (Some (f x)) (option_map f o)
chosen f true x o = refl
chosen f false x o = refl

-- a member with the key, and one with another
pub last_more : (word : List ℕ) (ms : List Member) (i : ℕ) (m : Member) (found next : Option (ℕ × Json)) → i < length ms → m ≡ get_or ms i m → next ≡ cond (same_text m.0.now word) (Some (i, m.1)) found
    → last_from word 0 ms None ≡ last_from word i (drop i ms) found → last_from word 0 ms None ≡ last_from word (i + 1) (drop (i + 1) ms) next
last_more word ms i m found next l is e so =
    so ∙ ap (λ us. last_from word i us found) (drop_more ms i m l ∙ ap (λ x. x ∷ drop (i + 1) ms) (sym is)) ∙ ap (last_from word (i + 1) (drop (i + 1) ms)) (sym e)

pub last_end : (word : List ℕ) (ms : List Member) (i : ℕ) (found : Option (ℕ × Json)) → length ms ≤ i → last_from word 0 ms None ≡ last_from word i (drop i ms) found → found ≡ last_from word 0 ms None
last_end word ms i found l so = sym (so ∙ ap (λ us. last_from word i us found) (drop_all i ms l))

-- ---- items

pub item_here : (xs : List Json) (i : ℕ) (x : Json) → i < length xs → x ≡ get_or xs i x → Some (i, x) ≡ with_index i (slice_get xs i)
item_here xs i x l is = sym (ap (with_index i) (slice_get-get_or xs i x l ∙ ap Some (sym is)))

none_over : (xs : List Json) (i : ℕ) → length xs ≤ i → slice_get xs i ≡ None
none_over [] i l = refl
none_over (x ∷ xs) zero l = absurd (omega arith)
none_over (x ∷ xs) (suc i) l = none_over xs i (omega arith)

pub item_over : (xs : List Json) (i : ℕ) → length xs ≤ i → None ≡ with_index i (slice_get xs i)
item_over xs i l = sym (ap (with_index i) (none_over xs i l))

pub ruleset item_steps = (item_here, item_over)

-- ---- a value, opened

opened-Array : (v : Vec Json Global) → opened (json.Array v) ≡ Json-F.Array v
opened-Array v = search (rules, the_lemmas)

opened-Object : (v : Vec Member Global) → opened (json.Object v) ≡ Json-F.Object v
opened-Object v = search (rules, the_lemmas)

pub item_of_array : (n : ℕ) (j : Json) (v : Vec Json Global) → j ≡ json.Array v → item_by n (opened j) ≡ with_index n (slice_get v.items n)
item_of_array n j v e = ap (λ k. item_by n (opened k)) e ∙ ap (item_by n) (opened-Array v)

pub member_of_object : (word : List ℕ) (j : Json) (v : Vec Member Global) → j ≡ json.Object v → member_by word (opened j) ≡ last_from word 0 v.items None
member_of_object word j v e = ap (λ k. member_by word (opened k)) e ∙ ap (member_by word) (opened-Object v)

pub keys_of_object : (j : Json) (v : Vec Member Global) → j ≡ json.Object v → keys_in j ≡ map (λ (m : Member). m.0.now) v.items
keys_of_object j v e = ap keys_in e ∙ ap keys_by (opened-Object v)
