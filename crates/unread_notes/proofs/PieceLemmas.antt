-- Pieces behind pieces.
use Rattle.std.proofs.Common.{◌≡◌, ℕ, ◌+◌, ◌<◌, List, ◌++◌, take, length, sym, ap, ◌∙◌, append_assoc}
use Rattle.std.specs.Prelude.{flat_map}
use Rattle.std.proofs.Math.ListN.{get_or}
use Rattle.std.proofs.lemmas.List.{take_more, flat_map_more}

-- two pieces, and more
pub two_pieces : {A : Type 0} (a b c x y : List A) → b ≡ a ++ x → c ≡ b ++ y → c ≡ a ++ (x ++ y)
two_pieces a b c x y e f = f ∙ ap (λ z. z ++ y) e ∙ append_assoc a x y

pub three_pieces : {A : Type 0} (a b c d x y z : List A) → b ≡ a ++ x → c ≡ b ++ y → d ≡ c ++ z → d ≡ a ++ (x ++ (y ++ z))
three_pieces a b c d x y z e f g = two_pieces a b d x (y ++ z) e (two_pieces b c d y z f g)

-- one piece more
pub piece_more : {X Y : Type 0} (d : X) (f : X → List Y) (xs : List X) (i : ℕ) (a b c : List Y) → i < length xs → b ≡ a ++ flat_map f (take i xs) → c ≡ b ++ f (get_or xs i d) → c ≡ a ++ flat_map f (take (i + 1) xs)
piece_more d f xs i a b c l e g =
    g ∙ ap (λ z. z ++ f (get_or xs i d)) e ∙ flat_map_more f a (take i xs) (get_or xs i d) ∙ ap (λ ys. a ++ flat_map f ys) (sym (take_more xs i d l))
