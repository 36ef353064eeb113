-- Pieces of a text.
use Rattle.std.proofs.Common.{◌≡◌, ℕ, ◌+◌, ◌<◌, Bool, true, false, List, [], ◌∷◌, ◌++◌, map, take, length, refl, sym, ap, ◌∙◌, append_assoc}
use Rattle.std.specs.Prelude.{flat_map, codes, ◌==◌}
use Rattle.std.specs.List.{join_by}
use Rattle.std.proofs.Math.ListN.{get_or}
use Rattle.std.proofs.lemmas.Grind.{flat_map-append}
use Rattle.std.proofs.lemmas.List.Folds.{flat_map-map}
use Rattle.contract.specs.declared.payment.Payment.{Payment}
use Rattle.places.specs.declared.key.Key.{Key}
use Rattle.places.specs.Texts.{key_text, place_text}
use Rattle.places.proofs.PieceLaws.{piece_more}
use Rattle.next_lines.specs.Lines.{payment_text, closes_line}

-- two pieces, and more
pub two_pieces : {A : Type 0} (a b c x y : List A) → b ≡ a ++ x → c ≡ b ++ y → c ≡ a ++ (x ++ y)
two_pieces a b c x y e f = f ∙ ap (λ z. z ++ y) e ∙ append_assoc a x y

pub three_pieces : {A : Type 0} (a b c d x y z : List A) → b ≡ a ++ x → c ≡ b ++ y → d ≡ c ++ z → d ≡ a ++ (x ++ (y ++ z))
three_pieces a b c d x y z e f g = two_pieces a b d x (y ++ z) e (two_pieces b c d y z f g)

pub four_pieces : {A : Type 0} (a b c d e x y z w : List A) → b ≡ a ++ x → c ≡ b ++ y → d ≡ c ++ z → e ≡ d ++ w → e ≡ a ++ (x ++ (y ++ (z ++ w)))
four_pieces a b c d e x y z w f g h i = two_pieces a b e x (y ++ (z ++ w)) f (three_pieces b c d e y z w g h i)

pub five_pieces : {A : Type 0} (a b c d e k x y z w v : List A) → b ≡ a ++ x → c ≡ b ++ y → d ≡ c ++ z → e ≡ d ++ w → k ≡ e ++ v → k ≡ a ++ (x ++ (y ++ (z ++ (w ++ v))))
five_pieces a b c d e k x y z w v f g h i j = two_pieces a b k x (y ++ (z ++ (w ++ v))) f (four_pieces b c d e k y z w v g h i j)

-- one piece more, in two
pub two_more : {X A : Type 0} (f g : X → List A) (xs : List X) (i : ℕ) (x : X) (a b m c : List A) → i < length xs → x ≡ get_or xs i x → b ≡ a ++ flat_map (λ y. f y ++ g y) (take i xs) → m ≡ b ++ f x → c ≡ m ++ g x
    → c ≡ a ++ flat_map (λ y. f y ++ g y) (take (i + 1) xs)
two_more f g xs i x a b m c l is e h k = piece_more (λ y. f y ++ g y) xs i x a b c l is e (two_pieces b m c (f x) (g x) h k)

-- a piece that is the other's text
pub same_piece : {A : Type 0} (a b x y : List A) → b ≡ a ++ x → x ≡ y → b ≡ a ++ y
same_piece a b x y e h = e ∙ ap (λ z. a ++ z) h

-- ---- lines

-- until when it waits
pub until_pieces : (a b c d : List ℕ) (x : List ℕ) (path keys : List Key) (rest : List ℕ) → b ≡ a ++ x → c ≡ b ++ place_text path → d ≡ c ++ (place_text keys ++ rest) → d ≡ a ++ (x ++ (place_text (path ++ keys) ++ rest))
until_pieces a b c d x path keys rest e f g =
    three_pieces a b c d x (place_text path) (place_text keys ++ rest) e f g
    ∙ ap (λ z. a ++ (x ++ z)) (sym (append_assoc (place_text path) (place_text keys) rest) ∙ ap (λ z. z ++ rest) (sym (flat_map-append key_text path keys)))

-- what applies, how many more, until when, and payments
pub waiting_pieces : {X Y : Type 0} (f : Y → List ℕ) (g : X → Y) (xs : List X) (a b m c d x y z : List ℕ) → b ≡ a ++ flat_map (λ x. f (g x)) xs → m ≡ b ++ x → c ≡ m ++ y → d ≡ c ++ z → d ≡ a ++ (flat_map f (map g xs) ++ (x ++ (y ++ z)))
waiting_pieces f g xs a b m c d x y z e i h k = four_pieces a b m c d (flat_map f (map g xs)) x y z (e ∙ ap (λ w. a ++ w) (sym (flat_map-map f g xs))) i h k

-- a deposit that isn't taken
pub leaving_pieces : (p q a b t u line : List ℕ) → line ≡ codes "deposit by " ++ (p ++ (codes " into " ++ (a ++ (codes " of " ++ (t ++ codes ": Leaves128\n"))))) → p ≡ q → a ≡ b → t ≡ u
    → line ≡ codes "deposit by " ++ (q ++ (codes " into " ++ (b ++ (codes " of " ++ (u ++ (codes ": Leaves128" ++ 10 ∷ []))))))
leaving_pieces p q a b t u line e f g h =
    e ∙ ap (λ x. codes "deposit by " ++ (x ++ (codes " into " ++ (a ++ (codes " of " ++ (t ++ codes ": Leaves128\n")))))) f ∙ ap (λ x. codes "deposit by " ++ (q ++ (codes " into " ++ (x ++ (codes " of " ++ (t ++ codes ": Leaves128\n")))))) g
    ∙ ap (λ x. codes "deposit by " ++ (q ++ (codes " into " ++ (b ++ (codes " of " ++ (x ++ codes ": Leaves128\n")))))) h

-- all lines
pub all_pieces : {X Y : Type 0} (f : Y → List ℕ) (g : X → Y) (xs : List X) (a b c s : List ℕ) → a ≡ [] → b ≡ a ++ s → c ≡ b ++ flat_map (λ x. f (g x)) xs → c ≡ s ++ flat_map f (map g xs)
all_pieces f g xs a b c s e h k = k ∙ ap (λ w. w ++ flat_map (λ x. f (g x)) xs) (h ∙ ap (λ w. w ++ s) e) ∙ ap (λ w. s ++ w) (sym (flat_map-map f g xs))

-- a warning
pub warning_pieces : (a b c d e k x y z w : List ℕ) → b ≡ a ++ codes "warns on the way: " → c ≡ b ++ x → x ≡ y → d ≡ c ++ codes " at " → e ≡ d ++ z → z ≡ w → k ≡ e ++ codes "\n" → k ≡ a ++ (codes "warns on the way: " ++ (y ++ (codes " at " ++ (w ++ 10 ∷ []))))
warning_pieces a b c d e k x y z w f g i h j l m =
    five_pieces a b c d e k (codes "warns on the way: ") y (codes " at ") w (10 ∷ []) f (same_piece b c x y g i) h (same_piece d e z w j l) m

some_payments : (ps : List Payment) (e : Bool) → e ≡ (length ps == 0) → e ≡ false → closes_line true ps ≡ codes "closes, and pays " ++ (join_by payment_text (codes ", ") ps ++ 10 ∷ [])
some_payments [] e h k = absurd (cc)
some_payments (p ∷ ps) e h k = refl

-- what is paid where it closes
pub closing_pieces : (b e : Bool) (ps : List Payment) (a x y z : List ℕ) → b ≡ true → e ≡ (length ps == 0) → e ≡ false → x ≡ a ++ codes "closes, and pays " → y ≡ x ++ join_by payment_text (codes ", ") ps → z ≡ y ++ codes "\n"
    → z ≡ a ++ closes_line b ps
closing_pieces b e ps a x y z r h k f g i =
    three_pieces a x y z (codes "closes, and pays ") (join_by payment_text (codes ", ") ps) (10 ∷ []) f g i ∙ ap (λ w. a ++ w) (sym (some_payments ps e h k)) ∙ ap (λ (v : Bool). a ++ closes_line v ps) (sym r)
