-- Lines of values, taken apart.
use Rattle.std.proofs.Common.{◌≡◌, ℕ, pos, negsuc, zero, suc, ◌+◌, ◌-◌, ◌<◌, ◌≤◌, ◌^◌, ◌/◌, ◌%◌, Bool, true, false, cond, ◌==◌, List, [], ◌∷◌, ◌++◌, length, get_or, take, map, inl, inr, ◌⊎◌, refl, sym, ap, subst, ◌∙◌, append_assoc, arith}
use Rattle.std.specs.Prelude.{flat_map, nat_lt}
use Rattle.std.specs.Char.{digit_char}
use Rattle.std.specs.Fmt.{decimal}
use Rattle.std.specs.List.{AllByRecursion, slice_split}
use Rattle.std.specs.Str.Lines.{lines, lines_of_parts, strip_carriage_return}
use Rattle.std.specs.Str.Parse.{AllDigits}
use Rattle.std.proofs.lemmas.Bool.{cases_eq, cases_lt, ne_eqb, lt-ltb}
use Rattle.std.proofs.lemmas.Fmt.{decimal_is_IsNumeral}
use Rattle.std.proofs.lemmas.List.Elements.{All-from_recursion}
use Rattle.std.proofs.lemmas.List.Splits.{slice_split_at}
use Rattle.std.proofs.lemmas.Str.Parse.{digit_from_value}
use Rattle.json.specs.Print.{escape_byte, escape, quoted}
use Rattle.json.proofs.Printed.Strings.{escape_byte_plain}
use Rattle.serde_json.specs.Data.{Num, unsigned, negative, float, Data, null, boolean, number, string, array, object, Items, no_items, item, Members, no_members, member}
use Rattle.serde_json.specs.Written.{number_text, compact_text, items_text, members_text, comma_if}
use Rattle.big_texts.specs.BigTexts.{with_texts}
use Rattle.big_texts.specs.Lines.{line_with_texts}
use Rattle.big_texts.specs.Laws.{IsWhole, AreWhole, ItemsAreWhole, MembersAreWhole, line_of, LinesAreOfValues}
use Rattle.big_texts.proofs.TokenLaws.{line_of_value}

-- ---- no byte of a compact text is a control character

abbrev AreAbove : List ℕ → Type 0
AreAbove = AllByRecursion (λ x. 32 ≤ x)

joined : (xs ys : List ℕ) → AreAbove xs → AreAbove ys → AreAbove (xs ++ ys)
joined [] ys h k = k
joined (x ∷ xs) ys h k = (h.0, joined xs ys h.1 k)

digit_above : (d : ℕ) → 32 ≤ digit_char d
digit_above d = elim (nat_lt d 10) as (λ b. 32 ≤ cond b (48 + d) (87 + d)) [ true ↦ omega arith | false ↦ omega arith ]

-- a control character without a letter of its own
control_above : (x : ℕ) → (x ≡ 8 → ⊥) → (x ≡ 12 → ⊥) → (x ≡ 10 → ⊥) → (x ≡ 13 → ⊥) → (x ≡ 9 → ⊥) → x < 32 → AreAbove (escape_byte x)
unfolding escape_byte
control_above x a b c d e l =
    rw (
      ne_eqb x 34 (λ is. omega arith),
      ne_eqb x 92 (λ is. omega arith),
      ne_eqb x 8 a,
      ne_eqb x 12 b,
      ne_eqb x 10 c,
      ne_eqb x 13 d,
      ne_eqb x 9 e,
      lt-ltb x 32 l,
    ) (omega arith, (omega arith, (omega arith, (omega arith, (digit_above (x / 16), (digit_above (x % 16), tt))))))

escape_byte_above : (x : ℕ) → AreAbove (escape_byte x)
unfolding escape_byte
escape_byte_above x = go (cases_eq x 34) (cases_eq x 92) (cases_eq x 8) (cases_eq x 12) (cases_eq x 10) (cases_eq x 13) (cases_eq x 9) (cases_lt x 32)
  where
    two : (n : ℕ) → 32 ≤ n → AreAbove (92 ∷ n ∷ [])
    two n h = (omega arith, (h, tt))

    go : (x ≡ 34) ⊎ (x ≡ 34 → ⊥) → (x ≡ 92) ⊎ (x ≡ 92 → ⊥) → (x ≡ 8) ⊎ (x ≡ 8 → ⊥) → (x ≡ 12) ⊎ (x ≡ 12 → ⊥) → (x ≡ 10) ⊎ (x ≡ 10 → ⊥) → (x ≡ 13) ⊎ (x ≡ 13 → ⊥)
        → (x ≡ 9) ⊎ (x ≡ 9 → ⊥) → (x < 32) ⊎ (32 ≤ x) → AreAbove (escape_byte x)
    go (inl is) b c d e f g l = subst (λ y. AreAbove (escape_byte y)) (sym is) (two 34 (omega arith))
    go (inr a) (inl is) c d e f g l = subst (λ y. AreAbove (escape_byte y)) (sym is) (two 92 (omega arith))
    go (inr a) (inr b) (inl is) d e f g l = subst (λ y. AreAbove (escape_byte y)) (sym is) (two 98 (omega arith))
    go (inr a) (inr b) (inr c) (inl is) e f g l = subst (λ y. AreAbove (escape_byte y)) (sym is) (two 102 (omega arith))
    go (inr a) (inr b) (inr c) (inr d) (inl is) f g l = subst (λ y. AreAbove (escape_byte y)) (sym is) (two 110 (omega arith))
    go (inr a) (inr b) (inr c) (inr d) (inr e) (inl is) g l = subst (λ y. AreAbove (escape_byte y)) (sym is) (two 114 (omega arith))
    go (inr a) (inr b) (inr c) (inr d) (inr e) (inr f) (inl is) l = subst (λ y. AreAbove (escape_byte y)) (sym is) (two 116 (omega arith))
    go (inr a) (inr b) (inr c) (inr d) (inr e) (inr f) (inr g) (inl l) = control_above x c d e f g l
    go (inr a) (inr b) (inr c) (inr d) (inr e) (inr f) (inr g) (inr l) = subst AreAbove (sym (escape_byte_plain x a b l)) (l, tt)

escape_above : (s : List ℕ) → AreAbove (escape s)
escape_above [] = tt
escape_above (x ∷ s) = joined (escape_byte x) (escape s) (escape_byte_above x) (escape_above s)

quoted_above : (s : List ℕ) → AreAbove (quoted s)
quoted_above s = (omega arith, joined (escape s) (34 ∷ []) (escape_above s) (omega arith, tt))

digits_above : (ds : List ℕ) → AllDigits 10 ds → AreAbove ds
digits_above [] h = tt
digits_above (c ∷ cs) h = (omega (arith, digit_from_value c h.0), digits_above cs h.1)

decimal_above : (n : ℕ) → n < 2 ^ 64 → AreAbove (decimal n)
decimal_above n h = digits_above (decimal n) (decimal_is_IsNumeral n h).0.1

number_above : (x : Num) → IsWhole x → AreAbove (number_text x)
number_above (unsigned n) h = decimal_above n h
number_above (negative (pos n)) h = absurd h
number_above (negative (negsuc n)) h = (omega arith, decimal_above (suc n) (omega (arith, h)))
number_above (float x) h = absurd h

comma_above : (later : Bool) → AreAbove (comma_if later)
comma_above true = (omega arith, tt)
comma_above false = tt

mutual
  text_above : (d : Data) → AreWhole d → AreAbove (compact_text d)
  text_above null h = (omega arith, (omega arith, (omega arith, (omega arith, tt))))
  text_above (boolean true) h = (omega arith, (omega arith, (omega arith, (omega arith, tt))))
  text_above (boolean false) h = (omega arith, (omega arith, (omega arith, (omega arith, (omega arith, tt)))))
  text_above (number x) h = number_above x h
  text_above (string s) h = quoted_above s
  text_above (array ds) h = (omega arith, items_above false ds h)
  text_above (object ms) h = (omega arith, members_above false ms h)

  items_above : (later : Bool) (ds : Items) → ItemsAreWhole ds → AreAbove (items_text later ds)
  items_above later no_items h = (omega arith, tt)
  items_above later (item d ds) h =
      joined (comma_if later) (compact_text d ++ items_text true ds) (comma_above later) (joined (compact_text d) (items_text true ds) (text_above d h.0) (items_above true ds h.1))

  members_above : (later : Bool) (ms : Members) → MembersAreWhole ms → AreAbove (members_text later ms)
  members_above later no_members h = (omega arith, tt)
  members_above later (member k d ms) h =
      joined (comma_if later) (quoted k ++ 58 ∷ (compact_text d ++ members_text true ms)) (comma_above later)
      (joined (quoted k) (58 ∷ (compact_text d ++ members_text true ms)) (quoted_above k) (omega arith, joined (compact_text d) (members_text true ms) (text_above d h.0) (members_above true ms h.1)))

-- ---- lines

no_feed : (xs : List ℕ) → AreAbove xs → AllByRecursion (λ x. (x == 10) ≡ false) xs
no_feed [] h = tt
no_feed (x ∷ xs) h = let l : 32 ≤ x = h.0 in (ne_eqb x 10 (λ e. omega arith), no_feed xs h.1)

no_return : (xs : List ℕ) (i : ℕ) → AreAbove xs → (get_or xs i 0 == 13) ≡ false
no_return [] i h = refl
no_return (x ∷ xs) zero h = let l : 32 ≤ x = h.0 in ne_eqb x 13 (λ e. omega arith)
no_return (x ∷ xs) (suc i) h = no_return xs i h.1

whole : (xs : List ℕ) → AreAbove xs → strip_carriage_return xs ≡ xs
whole xs h = ap (λ b. cond b (take (length xs - 1) xs) xs) (no_return xs (length xs - 1) h)

parts : (ds : List Data) → AllByRecursion AreWhole ds → slice_split (λ b. b == 10) (flat_map line_of ds) ≡ map compact_text ds ++ [] ∷ []
parts [] h = refl
parts (d ∷ ds) h =
    ap (slice_split (λ b. b == 10)) (append_assoc (compact_text d) (10 ∷ []) (flat_map line_of ds))
    ∙ slice_split_at (λ b. b == 10) (compact_text d) 10 (flat_map line_of ds) (All-from_recursion (λ x. (x == 10) ≡ false) (compact_text d) (no_feed (compact_text d) (text_above d h.0))) refl
    ∙ ap (λ ps. compact_text d ∷ ps) (parts ds h.1)

unstripped : (ds : List Data) → AllByRecursion AreWhole ds → lines_of_parts (map compact_text ds ++ [] ∷ []) ≡ map compact_text ds
unstripped [] h = refl
unstripped (d ∷ []) h = ap (λ l. l ∷ []) (whole (compact_text d) (text_above d h.0))
unstripped (d ∷ e ∷ ds) h = (λ i. whole (compact_text d) (text_above d h.0) i ∷ unstripped (e ∷ ds) h.1 i)

lines_are : (ds : List Data) → AllByRecursion AreWhole ds → lines (flat_map line_of ds) ≡ map compact_text ds
lines_are ds h = ap lines_of_parts (parts ds h) ∙ unstripped ds h

each_line : (ds : List Data) → AllByRecursion AreWhole ds → flat_map (λ line. line_with_texts line ++ 10 ∷ []) (map compact_text ds) ≡ flat_map line_of (map with_texts ds)
each_line [] h = refl
each_line (d ∷ ds) h = (λ i. (line_of_value d h.0 i ++ 10 ∷ []) ++ each_line ds h.1 i)

pub lines_are_of_values : LinesAreOfValues
lines_are_of_values ds h = ap (flat_map (λ line. line_with_texts line ++ 10 ∷ [])) (lines_are ds h) ∙ each_line ds h
