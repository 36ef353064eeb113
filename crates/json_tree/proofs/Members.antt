-- The members of an object, put in one after another.
use Rattle.std.proofs.Common.{◌≡◌, ℕ, ◌+◌, ◌<◌, List, [], ◌∷◌, ◌++◌, length, get_or, take, map, Some, Bor, refl, sym, ap, ◌∙◌, add-one}
use Rattle.std.proofs.Math.Seq.{take-suc}
use Rattle.serde_json.specs.Data.{Data, Members, no_members, put}
use Rattle.serde_json.specs.Find.{get_member}
use Rattle.serde_json.proofs.Views.{get_member-put, get_member-put_other}
use Rattle.json_tree.specs.View.{view, put_all, members_view}
use Rattle.json_tree.specs.declared.tree.Json.{Json}

abbrev pub Member : Type 0
Member = Bor (List ℕ) × Json

put_all-push : (ms : List (Bor (List ℕ) × Data)) (m : Bor (List ℕ) × Data) (found : Members) → put_all (ms ++ m ∷ []) found ≡ put m.0.now m.1 (put_all ms found)
put_all-push [] m found = refl
put_all-push (x ∷ ms) m found = put_all-push ms m (put x.0.now x.1 found)

map-push : {A B : Type 0} (f : A → B) (xs : List A) (x : A) → map f (xs ++ x ∷ []) ≡ map f xs ++ f x ∷ []
map-push f [] x = refl
map-push f (y ∷ xs) x = ap (λ zs. f y ∷ zs) (map-push f xs x)

pub members_view-push : (ms : List Member) (m : Member) → members_view (ms ++ m ∷ []) ≡ put m.0.now (view m.1) (members_view ms)
members_view-push ms m = ap (λ es. put_all es no_members) (map-push (λ (e : Member). (e.0, view e.1)) ms m) ∙ put_all-push (map (λ (e : Member). (e.0, view e.1)) ms) (m.0, view m.1) no_members

take-more : {X : Type 0} (xs : List X) (i : ℕ) (x : X) → i < length xs → x ≡ get_or xs i x → take (i + 1) xs ≡ take i xs ++ x ∷ []
take-more xs i x below is = rw (add-one i) (take-suc xs i x below) ∙ ap (λ y. take i xs ++ y ∷ []) (sym is)

pub one_more : (ms : List Member) (i : ℕ) (m : Member) → i < length ms → m ≡ get_or ms i m → members_view (take (i + 1) ms) ≡ put m.0.now (view m.1) (members_view (take i ms))
one_more ms i m below is = ap members_view (take-more ms i m below is) ∙ members_view-push (take i ms) m

-- the next member has the name
pub last-here : (q : List ℕ) (ms : List Member) (i : ℕ) (m : Member) → i < length ms → m ≡ get_or ms i m → m.0.now ≡ q → Some (view m.1) ≡ get_member q (members_view (take (i + 1) ms))
last-here q ms i m below is named =
    sym (ap (get_member q) (one_more ms i m below is) ∙ ap (λ k. get_member q (put k (view m.1) (members_view (take i ms)))) named ∙ get_member-put q (view m.1) _)

-- it has another
pub last-before : (q : List ℕ) (ms : List Member) (i : ℕ) (m : Member) → i < length ms → m ≡ get_or ms i m → (q ≡ m.0.now → ⊥) → get_member q (members_view (take i ms)) ≡ get_member q (members_view (take (i + 1) ms))
last-before q ms i m below is other = sym (ap (get_member q) (one_more ms i m below is) ∙ get_member-put_other q m.0.now (view m.1) _ other)
