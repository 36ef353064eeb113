-- Notes behind notes.
use Rattle.std.proofs.Common.{◌≡◌, List, [], ◌++◌, append_assoc, append-nil, sym, ap, ◌∙◌}

-- two pieces, three
pub two_pieces : {X : Type 0} (a b c x y : List X) → b ≡ a ++ x → c ≡ b ++ y → c ≡ a ++ (x ++ y)
two_pieces a b c x y e f = f ∙ ap (λ z. z ++ y) e ∙ append_assoc a x y

pub three_pieces : {X : Type 0} (a b c d x y z : List X) → b ≡ a ++ x → c ≡ b ++ y → d ≡ c ++ z → d ≡ a ++ (x ++ (y ++ z))
three_pieces a b c d x y z e f g = two_pieces a b d x (y ++ z) e (two_pieces b c d y z f g)

pub no_piece : {X : Type 0} (a : List X) → a ≡ a ++ []
no_piece a = sym (append-nil a)
