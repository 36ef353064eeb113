-- The line and the column behind one byte more.
use Rattle.std.proofs.Common.{◌≡◌, ℕ, zero, suc, ◌+◌, ◌<◌, ◌≤◌, Bool, true, false, cond, not, List, [], ◌∷◌, ◌++◌, length, take, reverse, get_or, refl, ap, ◌∙◌, arith}
use Rattle.std.specs.Prelude.{◌==◌, count_by, if◌then◌else◌}
use Rattle.std.specs.Prelude.{nat_eq, drop}
use Rattle.std.specs.List.{starts_with, take_while}
use Rattle.std.proofs.lemmas.List.{reverse-append, take_all, take_more, length-take, length-drop}
use Rattle.std.proofs.lemmas.List.Sums.{take_while-cons, sum_by-cons, sum_by_push}
use Rattle.text_spots.specs.declared.spots.Spot.{Spot}
use Rattle.text_spots.specs.Spots.{begins_scalar, of_last_line, line_behind, column_behind, mark, without_mark, spot_at, spot_behind}
use Rattle.text_spots.specs.SpotsSupport.{next_spot}

-- ---- lines

one_more : (feed : Bool) (n : ℕ) → suc (n + cond feed 1 0) ≡ cond feed (suc (suc n)) (suc n)
one_more true n = omega arith
one_more false n = omega arith

line_push : (bs : List ℕ) (b : ℕ) → line_behind (bs ++ b ∷ []) ≡ cond (b == 10) (suc (line_behind bs)) (line_behind bs)
line_push bs b = ap suc (sum_by_push (λ x. cond (x == 10) 1 0) bs b) ∙ one_more (b == 10) (count_by (λ x. x == 10) bs)

-- ---- columns

last_line_push : (bs : List ℕ) (b : ℕ) → of_last_line (bs ++ b ∷ []) ≡ cond (not (b == 10)) (b ∷ of_last_line bs) []
last_line_push bs b = ap (take_while (λ x. not (x == 10))) (reverse-append bs (b ∷ [])) ∙ take_while-cons (λ x. not (x == 10)) b (reverse bs)

one_in_front : (begins : Bool) (n : ℕ) → suc (cond begins 1 0 + n) ≡ cond begins (suc (suc n)) (suc n)
one_in_front true n = omega arith
one_in_front false n = omega arith

-- how many scalar values begin in what is left of a line
counted : (feed : Bool) (b : ℕ) (line : List ℕ)
    → suc (count_by begins_scalar (cond (not feed) (b ∷ line) [])) ≡ cond feed 1 (cond (begins_scalar b) (suc (suc (count_by begins_scalar line))) (suc (count_by begins_scalar line)))
counted true b line = refl
counted false b line = ap suc (sum_by-cons (λ x. cond (begins_scalar x) 1 0) b line) ∙ one_in_front (begins_scalar b) (count_by begins_scalar line)

column_push : (bs : List ℕ) (b : ℕ) → column_behind (bs ++ b ∷ []) ≡ cond (b == 10) 1 (cond (begins_scalar b) (suc (column_behind bs)) (column_behind bs))
column_push bs b = ap (λ line. suc (count_by begins_scalar line)) (last_line_push bs b) ∙ counted (b == 10) b (of_last_line bs)

-- ---- both

chosen : (feed begins : Bool) (s : Spot)
    → let found : Spot = record { line = cond feed (suc s.line) s.line; column = cond feed 1 (cond begins (suc s.column) s.column) } in
    found ≡ (if feed then record { line = suc s.line; column = 1 } else (if begins then record { line = s.line; column = suc s.column } else s))
chosen true begins s = refl
chosen false true s = refl
chosen false false s = refl

spot_push : (bs : List ℕ) (b : ℕ) → spot_behind (bs ++ b ∷ []) ≡ next_spot (spot_behind bs) b
spot_push bs b = (λ i. record { line = line_push bs b i; column = column_push bs b i }) ∙ chosen (b == 10) (begins_scalar b) (spot_behind bs)

pub spot_more : (bs : List ℕ) (i : ℕ) → i < length bs → spot_behind (take (i + 1) bs) ≡ next_spot (spot_behind (take i bs)) (get_or bs i 0)
spot_more bs i l = ap spot_behind (take_more bs i 0 l) ∙ spot_push (take i bs) (get_or bs i 0)

-- ---- from one byte of a text to the next

if_push : (marked : Bool) (p q r : List ℕ) → (if marked then p ++ r else q ++ r) ≡ (if marked then p else q) ++ r
if_push true p q r = refl
if_push false p q r = refl

-- whether a mark stands first is known from three bytes
mark_push : (bs : List ℕ) (b : ℕ) → 3 ≤ length bs → without_mark (bs ++ b ∷ []) ≡ without_mark bs ++ b ∷ []
mark_push [] b l = absurd (omega arith)
mark_push (x ∷ []) b l = absurd (omega arith)
mark_push (x ∷ y ∷ []) b l = absurd (omega arith)
mark_push (x ∷ y ∷ z ∷ bs) b l = if_push (starts_with nat_eq (x ∷ y ∷ z ∷ bs) mark) bs (x ∷ y ∷ z ∷ bs) (b ∷ [])

pub spot_next : (text : List ℕ) (n : ℕ) → 3 ≤ n → n < length text → spot_at text (n + 1) ≡ next_spot (spot_at text n) (get_or text n 0)
spot_next text n three l =
    ap (λ bs. spot_behind (without_mark bs)) (take_more text n 0 l) ∙ ap spot_behind (mark_push (take n text) (get_or text n 0) (omega (arith, length-take n text)))
    ∙ spot_push (without_mark (take n text)) (get_or text n 0)

-- ---- no line and no column is beyond the bytes

next_within : (feed begins : Bool) (s : Spot) (n : ℕ) → s.line ≤ n → s.column ≤ n → 1 ≤ n
    → let next : Spot = if feed then record { line = suc s.line; column = 1 } else (if begins then record { line = s.line; column = suc s.column } else s) in
    (next.line ≤ n + 1) × (next.column ≤ n + 1)
next_within true begins s n l c o = (omega (arith, l), omega (arith, o))
next_within false true s n l c o = (omega (arith, l), omega (arith, c))
next_within false false s n l c o = (omega (arith, l), omega (arith, c))

abbrev Within : Spot → ℕ → Type 0
Within s n = (s.line ≤ n) × (s.column ≤ n)

behind_within : (bs : List ℕ) (n : ℕ) → n ≤ length bs → Within (spot_behind (take n bs)) (n + 1)
behind_within bs zero l = (omega arith, omega arith)
behind_within bs (suc n) l =
    let p = behind_within bs n (omega (arith, l)) in
    let b = get_or bs n 0 in
    let last = spot_behind (take n bs) in
    let q : Within (next_spot last b) (n + 1 + 1) = next_within (b == 10) (begins_scalar b) last (n + 1) p.0 p.1 (omega arith) in
    let one : suc n ≡ n + 1 = omega arith in
    let e : spot_behind (take (suc n) bs) ≡ next_spot last b = ap (λ k. spot_behind (take k bs)) one ∙ spot_more bs n (omega (arith, l)) in
    (omega (arith, ap (λ (s : Spot). s.line) e, q.0), omega (arith, ap (λ (s : Spot). s.column) e, q.1))

all_within : (bs : List ℕ) (n : ℕ) → length bs ≤ n → Within (spot_behind bs) (n + 1)
all_within bs n l =
    let p = behind_within bs (length bs) (omega arith) in
    let e = ap spot_behind (take_all (length bs) bs (omega arith)) in
    (omega (arith, l, p.0, ap (λ (s : Spot). s.line) e), omega (arith, l, p.1, ap (λ (s : Spot). s.column) e))

unmarked_length : (bs : List ℕ) → length (without_mark bs) ≤ length bs
unmarked_length bs = by (starts_with nat_eq bs mark)
  where
    by : (marked : Bool) → length (if marked then drop 3 bs else bs) ≤ length bs
    by true = omega (arith, length-drop 3 bs)
    by false = omega arith

pub spot_within : (text : List ℕ) (n : ℕ) → Within (spot_at text n) (n + 1)
spot_within text n = all_within (without_mark (take n text)) n (omega (arith, unmarked_length (take n text), length-take n text))
