-- The tokens of a value with texts are those of the value, as they are told.
use Rattle.std.proofs.Common.{◌≡◌, ℕ, pos, negsuc, suc, ◌<◌, ◌^◌, Bool, true, false, cond, List, [], ◌∷◌, ◌++◌, inl, inr, ◌⊎◌, refl, sym, ap, subst, ◌∙◌, append_assoc, append-nil, arith}
use Rattle.std.specs.Fmt.{decimal, digits}
use Rattle.std.proofs.lemmas.Bool.{cases_eq}
use Rattle.json.specs.Token.{Token}
use Rattle.json.specs.Json as json
use Rattle.json.specs.Tree.{items_tokens, members_tokens, HasNumbers, ItemsHaveNumbers, MembersHaveNumbers}
use Rattle.json.specs.Print.{IsNumber, print}
use Rattle.json.specs.Word.{after_number}
use Rattle.json.proofs.OnLiterals.{json_on_literals}
use Rattle.json.specs.Lex.{tokens}
use Rattle.json.proofs.Printed.Tokens.{tokens-print}
use Rattle.json.proofs.Printed.Trees.{ArePrintable-json_tokens}
use Rattle.json.proofs.Printed.Decimals.{IsNumber-decimal, IsNumber-signed_decimal}
use Rattle.serde_json.specs.Data.{Num, unsigned, negative, float, Data, null, boolean, number, string, array, object, Items, no_items, item, Members, no_members, member}
use Rattle.serde_json.specs.Written.{number_text, outline, items_outline, members_outline, compact_text}
use Rattle.serde_json.proofs.Texts.{print-outline}
use Rattle.json_read_inputs.proofs.DigitLaws.{text-written}
use Rattle.big_texts.specs.Laws.{IsWhole, AreWhole, ItemsAreWhole, MembersAreWhole}
use Rattle.json_write_contracts.specs.Tokens.{data_tokens}
use Rattle.big_texts.specs.declared.place.Place.TheVariants.{Outside, Before, Inside}
use Rattle.big_texts.specs.BigTexts.{is_big_number, stays, with_texts, items_with_texts, members_with_texts}
use Rattle.big_texts.specs.Lines.{told_from, less, is_big_text, is_big_reading, number_token, line_with_texts}

-- ---- what stays

mutual
  inside : (n : ℕ) (d : Data) (rest : List Token) → told_from (Inside n) (data_tokens d ++ rest) ≡ data_tokens d ++ told_from (Inside n) rest
  inside n null rest = refl
  inside n (boolean b) rest = refl
  inside n (number x) rest = refl
  inside n (string s) rest = refl
  inside n (array ds) rest = ap (λ ts. Token.begin_array ∷ ts) (inside_items (suc n) ds rest)
  inside n (object ms) rest = ap (λ ts. Token.begin_object ∷ ts) (inside_members (suc n) ms rest)

  inside_items : (n : ℕ) (ds : Items) (rest : List Token) → told_from (Inside n) (items_tokens (items_outline ds) ++ rest) ≡ items_tokens (items_outline ds) ++ told_from (less n) rest
  inside_items n no_items rest = refl
  inside_items n (item d ds) rest =
      ap (told_from (Inside n)) (append_assoc (data_tokens d) (items_tokens (items_outline ds)) rest)
      ∙ inside n d (items_tokens (items_outline ds) ++ rest)
      ∙ ap (λ ts. data_tokens d ++ ts) (inside_items n ds rest)
      ∙ sym (append_assoc (data_tokens d) (items_tokens (items_outline ds)) (told_from (less n) rest))

  inside_members : (n : ℕ) (ms : Members) (rest : List Token) → told_from (Inside n) (members_tokens (members_outline ms) ++ rest) ≡ members_tokens (members_outline ms) ++ told_from (less n) rest
  inside_members n no_members rest = refl
  inside_members n (member k d ms) rest = ap (λ ts. Token.key k ∷ ts) (
      ap (told_from (Inside n)) (append_assoc (data_tokens d) (members_tokens (members_outline ms)) rest)
      ∙ inside n d (members_tokens (members_outline ms) ++ rest)
      ∙ ap (λ ts. data_tokens d ++ ts) (inside_members n ms rest)
      ∙ sym (append_assoc (data_tokens d) (members_tokens (members_outline ms)) (told_from (less n) rest)))

before : (d : Data) (rest : List Token) → told_from Before (data_tokens d ++ rest) ≡ data_tokens d ++ told_from Outside rest
before null rest = refl
before (boolean b) rest = refl
before (number x) rest = refl
before (string s) rest = refl
before (array ds) rest = ap (λ ts. Token.begin_array ∷ ts) (inside_items 0 ds rest)
before (object ms) rest = ap (λ ts. Token.begin_object ∷ ts) (inside_members 0 ms rest)

-- ---- numbers

is_told : (x : Num) → IsWhole x → is_big_text (number_text x) ≡ is_big_number x
is_told (unsigned n) h = let small : n < 2 ^ 127 = omega (arith, h) in ap is_big_reading (text-written (pos n) (record { sfits = small }))
is_told (negative (pos n)) h = absurd h
is_told (negative (negsuc n)) h = let small : n < 2 ^ 127 = omega (arith, h) in ap is_big_reading (text-written (negsuc n) (record { sfits = small }))
is_told (float x) h = absurd h

told_number : (x : Num) → IsWhole x → number_token Outside (number_text x) ∷ [] ≡ data_tokens (with_texts (number x))
told_number x h =
    ap (λ b. cond b (Token.string (number_text x)) (Token.number (number_text x)) ∷ []) (is_told x h)
    ∙ elim (is_big_number x) as (λ b. cond b (Token.string (number_text x)) (Token.number (number_text x)) ∷ [] ≡ data_tokens (cond b (string (number_text x)) (number x))) [ true ↦ refl | false ↦ refl ]

-- ---- values

-- the value of a member, which stays or doesn't
member_value : (b : Bool) (d : Data) (rest : List Token) → told_from Outside (data_tokens d ++ rest) ≡ data_tokens (with_texts d) ++ told_from Outside rest
    → told_from (cond b Before Outside) (data_tokens d ++ rest) ≡ data_tokens (cond b d (with_texts d)) ++ told_from Outside rest
member_value true d rest h = before d rest
member_value false d rest h = h

mutual
  outside : (d : Data) → AreWhole d → (rest : List Token) → told_from Outside (data_tokens d ++ rest) ≡ data_tokens (with_texts d) ++ told_from Outside rest
  outside null h rest = refl
  outside (boolean b) h rest = refl
  outside (number x) h rest = ap (λ ts. ts ++ told_from Outside rest) (told_number x h)
  outside (string s) h rest = refl
  outside (array ds) h rest = ap (λ ts. Token.begin_array ∷ ts) (outside_items ds h rest)
  outside (object ms) h rest = ap (λ ts. Token.begin_object ∷ ts) (outside_members ms h rest)

  outside_items : (ds : Items) → ItemsAreWhole ds → (rest : List Token)
      → told_from Outside (items_tokens (items_outline ds) ++ rest) ≡ items_tokens (items_outline (items_with_texts ds)) ++ told_from Outside rest
  outside_items no_items h rest = refl
  outside_items (item d ds) h rest =
      ap (told_from Outside) (append_assoc (data_tokens d) (items_tokens (items_outline ds)) rest)
      ∙ outside d h.0 (items_tokens (items_outline ds) ++ rest)
      ∙ ap (λ ts. data_tokens (with_texts d) ++ ts) (outside_items ds h.1 rest)
      ∙ sym (append_assoc (data_tokens (with_texts d)) (items_tokens (items_outline (items_with_texts ds))) (told_from Outside rest))

  outside_members : (ms : Members) → MembersAreWhole ms → (rest : List Token)
      → told_from Outside (members_tokens (members_outline ms) ++ rest) ≡ members_tokens (members_outline (members_with_texts ms)) ++ told_from Outside rest
  outside_members no_members h rest = refl
  outside_members (member k d ms) h rest = ap (λ ts. Token.key k ∷ ts) (
      ap (told_from (cond (stays k) Before Outside)) (append_assoc (data_tokens d) (members_tokens (members_outline ms)) rest)
      ∙ member_value (stays k) d (members_tokens (members_outline ms) ++ rest) (outside d h.0 (members_tokens (members_outline ms) ++ rest))
      ∙ ap (λ ts. data_tokens (cond (stays k) d (with_texts d)) ++ ts) (outside_members ms h.1 rest)
      ∙ sym (append_assoc (data_tokens (cond (stays k) d (with_texts d))) (members_tokens (members_outline (members_with_texts ms))) (told_from Outside rest)))

-- ---- lines

least : IsNumber (45 ∷ decimal (2 ^ 63))
unfolding digits after_number json_on_literals
least = refl

negative_is : (n : ℕ) → n < 2 ^ 63 → IsNumber (45 ∷ decimal (suc n))
negative_is n h = go (cases_eq (suc n) (2 ^ 63))
  where
    go : (suc n ≡ 2 ^ 63) ⊎ (suc n ≡ 2 ^ 63 → ⊥) → IsNumber (45 ∷ decimal (suc n))
    go (inl is) = subst (λ m. IsNumber (45 ∷ decimal m)) (sym is) least
    go (inr other) = IsNumber-signed_decimal (negsuc n) (omega arith)

number_is : (x : Num) → IsWhole x → IsNumber (number_text x)
number_is (unsigned n) h = IsNumber-decimal n h
number_is (negative (pos n)) h = absurd h
number_is (negative (negsuc n)) h = negative_is n h
number_is (float x) h = absurd h

mutual
  numbers_are : (d : Data) → AreWhole d → HasNumbers (outline d)
  numbers_are null h = tt
  numbers_are (boolean b) h = tt
  numbers_are (number x) h = number_is x h
  numbers_are (string s) h = tt
  numbers_are (array ds) h = items_numbers_are ds h
  numbers_are (object ms) h = members_numbers_are ms h

  items_numbers_are : (ds : Items) → ItemsAreWhole ds → ItemsHaveNumbers (items_outline ds)
  items_numbers_are no_items h = tt
  items_numbers_are (item d ds) h = (numbers_are d h.0, items_numbers_are ds h.1)

  members_numbers_are : (ms : Members) → MembersAreWhole ms → MembersHaveNumbers (members_outline ms)
  members_numbers_are no_members h = tt
  members_numbers_are (member k d ms) h = (numbers_are d h.0, members_numbers_are ms h.1)

tokens_are : (d : Data) → AreWhole d → tokens (compact_text d) ≡ data_tokens d ++ []
tokens_are d h =
    ap tokens (sym (print-outline d)) ∙ tokens-print (data_tokens d) (ArePrintable-json_tokens (outline d) (numbers_are d h)) ∙ sym (append-nil (data_tokens d))

-- the line of a value
pub line_of_value : (d : Data) → AreWhole d → line_with_texts (compact_text d) ≡ compact_text (with_texts d)
line_of_value d h =
    ap (λ ts. print (told_from Outside ts)) (tokens_are d h)
    ∙ ap print (outside d h [] ∙ append-nil (data_tokens (with_texts d)))
    ∙ print-outline (with_texts d)
