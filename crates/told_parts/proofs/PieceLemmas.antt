-- Pieces behind pieces.
use Rattle.std.proofs.Common.{◌≡◌, ℕ, ◌+◌, ◌-◌, ◌<◌, ◌≤◌, arith, List, [], ◌∷◌, ◌++◌, map, take, drop, length, refl, sym, ap, ◌∙◌, append_assoc}
use Rattle.std.specs.Prelude.{flat_map, codes}
use Rattle.std.specs.Borrow.{Bor}
use Rattle.serde_json.specs.Data.{string}
use Rattle.std.proofs.Math.ListN.{get_or}
use Rattle.std.proofs.lemmas.List.{take_more, take_all, take-map, flat_map_more, length-map}
use Rattle.std.proofs.lemmas.List.Folds.{flat_map-map}
use Rattle.text_spots.specs.Shown.{path_shown}
use Rattle.json_stops.specs.declared.stop.Step.{Step}
use Rattle.json_members.specs.Members.{first_member}
use Rattle.told_parts.specs.Told.{Told}
use Rattle.told_parts.specs.Members.{path_json, spot_members, what_members, hint_members, other_members, TextsHaveMore}
use Rattle.told_parts.specs.Lines.{at_text, path_text, next_key_text, others_text, more_keys_text}

-- two pieces, and more
pub two_pieces : {A : Type 0} (a b c x y : List A) → b ≡ a ++ x → c ≡ b ++ y → c ≡ a ++ (x ++ y)
two_pieces a b c x y e f = f ∙ ap (λ z. z ++ y) e ∙ append_assoc a x y

pub three_pieces : {A : Type 0} (a b c d x y z : List A) → b ≡ a ++ x → c ≡ b ++ y → d ≡ c ++ z → d ≡ a ++ (x ++ (y ++ z))
three_pieces a b c d x y z e f g = two_pieces a b d x (y ++ z) e (two_pieces b c d y z f g)

pub four_pieces : {A : Type 0} (a b c d e x y z w : List A) → b ≡ a ++ x → c ≡ b ++ y → d ≡ c ++ z → e ≡ d ++ w → e ≡ a ++ (x ++ (y ++ (z ++ w)))
four_pieces a b c d e x y z w f g h i = two_pieces a b e x (y ++ (z ++ w)) f (three_pieces b c d e y z w g h i)

-- all there is
pub three_in_all : {A : Type 0} (a b c d x y z : List A) → a ≡ [] → b ≡ a ++ x → c ≡ b ++ y → d ≡ c ++ z → d ≡ x ++ (y ++ z)
three_in_all a b c d x y z n e f g = three_pieces a b c d x y z e f g ∙ ap (λ v. v ++ (x ++ (y ++ z))) n

pub four_in_all : {A : Type 0} (a b c d e x y z w : List A) → a ≡ [] → b ≡ a ++ x → c ≡ b ++ y → d ≡ c ++ z → e ≡ d ++ w → e ≡ x ++ (y ++ (z ++ w))
four_in_all a b c d e x y z w n f g h i = four_pieces a b c d e x y z w f g h i ∙ ap (λ v. v ++ (x ++ (y ++ (z ++ w)))) n

-- what a text has more, around the pieces of a value
around : {A : Type 0} (s c p w h o : List A) → (s ++ (c ++ p)) ++ (w ++ (h ++ o)) ≡ s ++ (c ++ ((p ++ (w ++ h)) ++ o))
around s c p w h o =
    append_assoc s (c ++ p) (w ++ (h ++ o))
    ∙ ap (λ z. s ++ z) (append_assoc c p (w ++ (h ++ o)) ∙ ap (λ z. c ++ z) (sym (append_assoc p (w ++ h) o ∙ ap (λ z. p ++ z) (append_assoc w h o))))

pub texts_have_more : TextsHaveMore
texts_have_more file t = around (spot_members file t.spot) (codes ",") (first_member (codes "place") (path_json t.path)) (what_members t) (hint_members t) (other_members t)

-- the first and the rest
pub first_rest : {V X : Type 0} (f : V → X) (vs : List V) (d : V) → 1 ≤ length vs → f (get_or vs 0 d) ∷ map f (take (length vs - 1) (drop 1 vs)) ≡ map f vs
first_rest f [] d l = absurd (omega arith)
first_rest f (v ∷ vs) d l = ap (λ us. f v ∷ map f us) (take_all (length (v ∷ vs) - 1) vs (omega arith))

-- one piece more
pub piece_more : {X Y : Type 0} (d : X) (f : X → List Y) (xs : List X) (i : ℕ) (a b c : List Y) → i < length xs → b ≡ a ++ flat_map f (take i xs) → c ≡ b ++ f (get_or xs i d) → c ≡ a ++ flat_map f (take (i + 1) xs)
piece_more d f xs i a b c l e g =
    g ∙ ap (λ z. z ++ f (get_or xs i d)) e ∙ flat_map_more f a (take i xs) (get_or xs i d) ∙ ap (λ ys. a ++ flat_map f ys) (sym (take_more xs i d l))

-- the keys behind the first
pub more_keys : {K : Type 0} (text : K → List ℕ) (keys : List K) (a b c : List ℕ) → b ≡ a ++ flat_map (λ key. next_key_text (text key)) (take 9 keys) → c ≡ b ++ others_text (length keys)
    → c ≡ a ++ more_keys_text (map text keys)
more_keys text keys a b c e f =
    two_pieces a b c (flat_map (λ key. next_key_text (text key)) (take 9 keys)) (others_text (length keys)) e f
    ∙ ap (λ z. a ++ (z ++ others_text (length keys))) (sym (flat_map-map next_key_text text (take 9 keys)) ∙ ap (flat_map next_key_text) (sym (take-map text 9 keys)))
    ∙ ap (λ n. a ++ (flat_map next_key_text (take 9 (map text keys)) ++ others_text n)) (sym (length-map keys text))

-- the path to a part that is not the whole
pub at_some : (path : List Step) → 1 ≤ length path → codes " at " ++ path_shown (path_text path) ≡ at_text path
at_some [] l = absurd (omega arith)
at_some (step ∷ path) l = refl

-- words as values
words_seen : (words : List (Bor (List ℕ))) → map (λ (word : Bor (List ℕ)). string word.now) words ≡ map string (map (λ (word : Bor (List ℕ)). word.now) words)
words_seen [] = refl
words_seen (word ∷ words) = ap (λ ds. string word.now ∷ ds) (words_seen words)

-- the first ten
pub ten_words : (words firsts : List (Bor (List ℕ))) → firsts ≡ take 10 words
    → map (λ (word : Bor (List ℕ)). string word.now) firsts ≡ map string (take 10 (map (λ (word : Bor (List ℕ)). word.now) words))
ten_words words firsts e =
    ap (map (λ (word : Bor (List ℕ)). string word.now)) e ∙ words_seen (take 10 words) ∙ ap (map string) (sym (take-map (λ (word : Bor (List ℕ)). word.now) 10 words))
