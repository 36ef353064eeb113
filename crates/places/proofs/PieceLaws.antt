-- Pieces behind pieces.
use Rattle.std.proofs.Common.{◌≡◌, ℕ, ◌+◌, ◌<◌, List, [], ◌∷◌, ◌++◌, take, length, sym, ap, ◌∙◌}
use Rattle.std.specs.Prelude.{flat_map}
use Rattle.std.proofs.Math.ListN.{get_or}
use Rattle.std.proofs.lemmas.List.{take_more, flat_map_more, get_or_default}

-- one piece more
pub piece_more : {X Y : Type 0} (f : X → List Y) (xs : List X) (i : ℕ) (x : X) (a b c : List Y) → i < length xs → x ≡ get_or xs i x → b ≡ a ++ flat_map f (take i xs) → c ≡ b ++ f x → c ≡ a ++ flat_map f (take (i + 1) xs)
piece_more f xs i x a b c l is e g =
    g ∙ ap (λ z. z ++ f x) e ∙ flat_map_more f a (take i xs) x ∙ ap (λ ys. a ++ flat_map f ys) (sym (take_more xs i x l ∙ ap (λ y. take i xs ++ y ∷ []) (sym is)))

-- the same of what is copied out of the list
pub piece_more_at : {X Y : Type 0} (d : X) (f : X → List Y) (xs : List X) (i : ℕ) (a b c : List Y) → i < length xs → b ≡ a ++ flat_map f (take i xs) → c ≡ b ++ f (get_or xs i d) → c ≡ a ++ flat_map f (take (i + 1) xs)
piece_more_at d f xs i a b c l e g = piece_more f xs i (get_or xs i d) a b c l (get_or_default xs i d (get_or xs i d) l) e g
