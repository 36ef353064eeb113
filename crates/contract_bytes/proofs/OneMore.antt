-- A loop takes one item more: what stands in the output, and what fits.
use Rattle.std.proofs.Common.{◌≡◌, sym, ◌∙◌, ap, subst, ℕ, ◌+◌, ◌<◌, List, [], ◌∷◌, ◌++◌, length, get_or, take, drop, append_assoc, add-one}
use Rattle.std.proofs.Math.Seq.{take-suc}
use Rattle.std.proofs.lemmas.Grind.{flat_map-append}
use Rattle.std.proofs.lemmas.List.{append-nil, take-append-drop}
use Rattle.std.proofs.lemmas.List.Elements.{All-push}
use Rattle.std.specs.List.{All, flat_map}
use Rattle.contract_bytes.specs.Writing.{AppendsFront}
use Rattle.contract_bytes.proofs.Fronts.{front_first, front_then}

-- the items up to the next one
one_more : {X : Type 0} (xs : List X) (i : ℕ) (x : X) → i < length xs → x ≡ get_or xs i x → take (i + 1) xs ≡ take i xs ++ (x ∷ [])
one_more xs i x l is = ap (λ n. take n xs) (add-one i) ∙ take-suc xs i x l ∙ ap (λ y. take i xs ++ (y ∷ [])) (sym is)

pub one_more_fits : {X : Type 0} (P : X → Type 0) (xs : List X) (i : ℕ) (x : X) → i < length xs → x ≡ get_or xs i x → All P (take i xs) → P x → All P (take (i + 1) xs)
one_more_fits P xs i x l is h here = subst (All P) (sym (one_more xs i x l is)) (All-push P (take i xs) x h here)

pub one_more_stands : {X A : Type 0} (f : X → List A) (xs : List X) (i : ℕ) (x : X) → i < length xs → x ≡ get_or xs i x → (start now new : List A) → now ≡ start ++ flat_map f (take i xs) → new ≡ now ++ f x
    → new ≡ start ++ flat_map f (take (i + 1) xs)
one_more_stands f xs i x l is start now new h put =
    put ∙ ap (λ ys. ys ++ f x) h ∙ append_assoc start (flat_map f (take i xs)) (f x)
    ∙ ap (λ ys. start ++ ys) (ap (λ y. flat_map f (take i xs) ++ y) (sym (append-nil (f x))) ∙ sym (flat_map-append f (take i xs) (x ∷ [])) ∙ ap (flat_map f) (sym (one_more xs i x l is)))

-- the items so far stand in the output, and a front of the next one
pub one_more_front : {X : Type 0} (f : X → List ℕ) (xs : List X) (i : ℕ) (x : X) → i < length xs → x ≡ get_or xs i x → (start now new : List ℕ) → now ≡ start ++ flat_map f (take i xs) → AppendsFront (f x) now new
    → AppendsFront (flat_map f xs) start new
one_more_front f xs i x l is start now new h put =
    let so_far : flat_map f (take (i + 1) xs) ≡ flat_map f (take i xs) ++ f x =
    ap (flat_map f) (one_more xs i x l is) ∙ flat_map-append f (take i xs) (x ∷ []) ∙ ap (λ y. flat_map f (take i xs) ++ y) (append-nil (f x)) in
    let all : flat_map f xs ≡ (flat_map f (take i xs) ++ f x) ++ flat_map f (drop (i + 1) xs) =
    ap (flat_map f) (sym (take-append-drop (i + 1) xs)) ∙ flat_map-append f (take (i + 1) xs) (drop (i + 1) xs) ∙ ap (λ y. y ++ flat_map f (drop (i + 1) xs)) so_far in
    subst (λ b. AppendsFront b start new) (sym all)
    (front_first (flat_map f (drop (i + 1) xs)) (front_then (flat_map f (take i xs)) h put))
