-- Characters one behind the other, and where a text is cut.
use Rattle.std.proofs.Common.{◌≡◌, ℕ, ◌<◌, ◌≤◌, cond, List, [], ◌∷◌, ◌++◌, length, take, map, sym, ap, ◌∙◌, arith, append_assoc, append-nil, map-id, flat_map, encode_utf8, encode_utf8_all, lt-ltb, le-ltb, lit<}
use Rattle.std.proofs.lemmas.Str.{encodes-append, encode_ascii}
use Rattle.std.proofs.lemmas.List.{take_all}
use Rattle.std.proofs.lemmas.Grind.{flat_map-append}
use Rattle.text_spots.specs.Shown.{seen, shown, rest_mark}

-- one character
pub one_char : (c : ℕ) (a b : List ℕ) → b ≡ a ++ encode_utf8 c → b ≡ a ++ encode_utf8_all (c ∷ [])
one_char c a b e = e ∙ ap (λ z. a ++ z) (sym (append-nil (encode_utf8 c)))

-- characters behind characters
chars_more : (xs ys a b c : List ℕ) → b ≡ a ++ encode_utf8_all xs → c ≡ b ++ encode_utf8_all ys → c ≡ a ++ encode_utf8_all (xs ++ ys)
chars_more xs ys a b c e g =
    g ∙ ap (λ z. z ++ encode_utf8_all ys) e ∙ append_assoc a (encode_utf8_all xs) (encode_utf8_all ys) ∙ ap (λ z. a ++ z) (sym (encodes-append xs ys))

pub six_chars : (u v w x y z : ℕ) (a b c d e f g : List ℕ) → b ≡ a ++ encode_utf8_all (u ∷ []) → c ≡ b ++ encode_utf8_all (v ∷ []) → d ≡ c ++ encode_utf8_all (w ∷ []) → e ≡ d ++ encode_utf8_all (x ∷ [])
    → f ≡ e ++ encode_utf8_all (y ∷ []) → g ≡ f ++ encode_utf8_all (z ∷ []) → g ≡ a ++ encode_utf8_all (u ∷ v ∷ w ∷ x ∷ y ∷ z ∷ [])
six_chars u v w x y z a b c d e f g h i j k l m =
    let two = chars_more (u ∷ []) (v ∷ []) a b c h i in
    let three = chars_more (u ∷ v ∷ []) (w ∷ []) a c d two j in
    let four = chars_more (u ∷ v ∷ w ∷ []) (x ∷ []) a d e three k in
    let five = chars_more (u ∷ v ∷ w ∷ x ∷ []) (y ∷ []) a e f four l in
    chars_more (u ∷ v ∷ w ∷ x ∷ y ∷ []) (z ∷ []) a f g five m

-- what is seen of one character more
pub seen_more : (ys : List ℕ) (y : ℕ) (b c : List ℕ) → b ≡ encode_utf8_all (flat_map seen ys) → c ≡ b ++ encode_utf8_all (seen y) → c ≡ encode_utf8_all (flat_map seen (ys ++ y ∷ []))
seen_more ys y b c e g =
    g ∙ ap (λ z. z ++ encode_utf8_all (seen y)) e ∙ sym (encodes-append (flat_map seen ys) (seen y))
    ∙ ap encode_utf8_all (sym (flat_map-append seen ys (y ∷ []) ∙ ap (λ z. flat_map seen ys ++ z) (append-nil (seen y))))

-- ---- the whole of a text is shown

whole_text : (cs ys : List ℕ) → map (λ c. c) ys ≡ cs → length ys ≤ 60 → flat_map seen ys ≡ shown cs
whole_text cs ys e l =
    let same : ys ≡ cs = sym (map-id ys) ∙ e in
    let short : length cs ≤ 60 = omega (arith, ap length same) in
    ap (flat_map seen) (same ∙ sym (take_all 60 cs short)) ∙ sym (append-nil (flat_map seen (take 60 cs))) ∙ ap (λ b. flat_map seen (take 60 cs) ++ cond b rest_mark []) (sym (le-ltb 60 (length cs) short))

pub shown_whole : (cs ys b : List ℕ) → map (λ c. c) ys ≡ cs → length ys ≤ 60 → b ≡ encode_utf8_all (flat_map seen ys) → b ≡ encode_utf8_all (shown cs)
shown_whole cs ys b e l h = h ∙ ap encode_utf8_all (whole_text cs ys e l)

-- ---- or the first 60 characters

first_sixty : (cs ys : List ℕ) → map (λ c. c) ys ≡ take (length ys) cs → length ys ≡ 60 → length ys < length cs → flat_map seen ys ++ rest_mark ≡ shown cs
first_sixty cs ys e n l =
    ap (λ zs. flat_map seen zs ++ rest_mark) (sym (map-id ys) ∙ e ∙ ap (λ k. take k cs) n) ∙ ap (λ b. flat_map seen (take 60 cs) ++ cond b rest_mark []) (sym (lt-ltb 60 (length cs) (omega arith)))

rest_mark_bytes : encode_utf8_all rest_mark ≡ rest_mark
rest_mark_bytes = ap (λ z. z ++ (z ++ [])) (encode_ascii 46 (lit< tt))

pub shown_cut : (cs ys b c : List ℕ) → map (λ c. c) ys ≡ take (length ys) cs → length ys ≡ 60 → length ys < length cs → b ≡ encode_utf8_all (flat_map seen ys) → c ≡ b ++ rest_mark
    → c ≡ encode_utf8_all (shown cs)
shown_cut cs ys b c e n l h g =
    g ∙ ap (λ z. z ++ rest_mark) h ∙ ap (λ z. encode_utf8_all (flat_map seen ys) ++ z) (sym rest_mark_bytes) ∙ sym (encodes-append (flat_map seen ys) rest_mark) ∙ ap encode_utf8_all (first_sixty cs ys e n l)

-- ---- paths

pub three_pieces : (a b c d x y z : List ℕ) → b ≡ a ++ x → c ≡ b ++ y → d ≡ c ++ z → d ≡ a ++ (x ++ (y ++ z))
three_pieces a b c d x y z e f g =
    g ∙ ap (λ w. w ++ z) (f ∙ ap (λ w. w ++ y) e ∙ append_assoc a x y) ∙ append_assoc a (x ++ y) z ∙ ap (λ w. a ++ w) (append_assoc x y z)
