-- Laws for readers of numbers: a text stands for the number of 128 bits whose digits it has.
use Rattle.std.proofs.Common.{◌≡◌, ℕ, ℤ, pos, negsuc, suc, ◌<◌, ◌^◌, Bool, true, false, cond, ◌&&◌, List, [], ◌∷◌, Ok, Err, FitsSigned, refl, sym, ap, subst, arith}
use Rattle.std.specs.Prelude.{neg_ℤ}
use Rattle.std.specs.Int.{w128}
use Rattle.std.specs.Fmt.{decimal, signed_decimal}
use Rattle.std.specs.Str.{bytes_eq}
use Rattle.std.specs.Str.Parse.{starts_with_minus, signed_digits_value, without_leading_plus, without_leading_sign, IsNumeral}
use Rattle.std.proofs.lemmas.Bool.Decides.{nat_tests}
use Rattle.std.proofs.lemmas.Fmt.{decimal_is_IsNumeral_wide}
use Rattle.std.proofs.lemmas.Slice.Eq.{bytes_eq-Decides}
use Rattle.std.proofs.lemmas.Str.Parse.{digit_from_value, without_leading_plus_none}
use Rattle.json_read_names.specs.declared.fault.JsonFault.TheVariants.{NoForm}
use Rattle.json_read_inputs.specs.ReadsNumber.{is_in_128_bits, number_of_text}

pub in_bits : (n : ℤ) → FitsSigned w128 n → is_in_128_bits n ≡ true
unfolding is_in_128_bits
in_bits (pos n) h = let k : n < 2 ^ 127 = h.sfits in grind (arith, nat_tests)
in_bits (negsuc n) h = let k : n < 2 ^ 127 = h.sfits in grind (arith, nat_tests)

of_bits : (n : ℤ) → is_in_128_bits n ≡ true → FitsSigned w128 n
unfolding is_in_128_bits
of_bits (pos n) h = let k : n < 2 ^ 127 = grind (arith, nat_tests) in record { sfits = k }
of_bits (negsuc n) h = let k : n < 2 ^ 127 = grind (arith, nat_tests) in record { sfits = k }

-- digits are no sign
module _ (c : ℕ) (cs : List ℕ) (h : IsNumeral 10 (c ∷ cs)) where
  no_plus : without_leading_plus (c ∷ cs) ≡ c ∷ cs
  no_plus = without_leading_plus_none (c ∷ cs) (λ e. omega (arith, digit_from_value c h.1.0))

  no_minus : starts_with_minus (c ∷ cs) ≡ false
  no_minus = grind (arith, nat_tests, digit_from_value c h.1.0)

unsigned : (ds : List ℕ) → IsNumeral 10 ds → (starts_with_minus ds ≡ false) × (without_leading_plus ds ≡ ds)
unsigned [] h = absurd (omega (arith, h.0))
unsigned (c ∷ cs) h = (no_minus c cs h, no_plus c cs h)

-- a number's digits behind its sign
written : (n : ℤ) → FitsSigned w128 n → IsNumeral 10 (without_leading_sign (signed_decimal n)) × (signed_digits_value 10 (signed_decimal n) ≡ n)
written (pos n) h =
    let k : n < 2 ^ 127 = h.sfits in
    let d = decimal_is_IsNumeral_wide n (omega arith) in
    let u = unsigned (decimal n) d.0 in
    rw (u.0, u.1) (d.0, ap pos d.1)
written (negsuc n) h =
    let k : n < 2 ^ 127 = h.sfits in
    let d = decimal_is_IsNumeral_wide (suc n) (omega arith) in
    (d.0, ap (λ m. neg_ℤ (pos m)) d.1)

-- the number that was parsed, where its digits are the text
pub text-read : (text : List ℕ) (n : ℤ) → FitsSigned w128 n → n ≡ signed_digits_value 10 text → true ≡ bytes_eq (signed_decimal n) text → number_of_text text ≡ Ok n
unfolding number_of_text
text-read text n fits is same = rw (← is, in_bits n fits, ← same) refl

-- where they aren't
pub text-other : (text : List ℕ) (n : ℤ) → n ≡ signed_digits_value 10 text → false ≡ bytes_eq (signed_decimal n) text → number_of_text text ≡ Err NoForm
unfolding number_of_text
text-other text n is other = rw (← is, ← other) (elim (is_in_128_bits n) as (λ b. cond (b && false) (Ok n) (Err NoForm) ≡ Err NoForm) [ true ↦ refl | false ↦ refl ])

both : (a b : Bool) → (a && b) ≡ true → (a ≡ true) × (b ≡ true)
both true b h = (refl, h)
both false b h = cc

-- the text of a number of 128 bits is parsed
parsed : (text : List ℕ) (n : ℤ) → is_in_128_bits n ≡ true → bytes_eq (signed_decimal n) text ≡ true → IsNumeral 10 (without_leading_sign text) × FitsSigned w128 n
parsed text n fits same =
    (subst (λ ds. IsNumeral 10 (without_leading_sign ds)) ((bytes_eq-Decides (signed_decimal n) text).0 same) (written n (of_bits n fits)).0, of_bits n fits)

-- what isn't parsed is no such text
pub text-unread : (text : List ℕ) → ((IsNumeral 10 (without_leading_sign text) × FitsSigned w128 (signed_digits_value 10 text)) → ⊥) → number_of_text text ≡ Err NoForm
unfolding number_of_text
text-unread text h =
    let n = signed_digits_value 10 text in
    elim (is_in_128_bits n && bytes_eq (signed_decimal n) text) as (λ b. (is_in_128_bits n && bytes_eq (signed_decimal n) text) ≡ b → cond b (Ok n) (Err NoForm) ≡ Err NoForm) [
      | true ↦ λ is. let p = both (is_in_128_bits n) _ is in absurd (h (parsed text n p.0 p.1))
      | false ↦ λ is. refl
    ] refl

-- a number that was written is read as it was
pub text-written : (n : ℤ) → FitsSigned w128 n → number_of_text (signed_decimal n) ≡ Ok n
text-written n fits = text-read (signed_decimal n) n fits (sym (written n fits).1) (sym ((bytes_eq-Decides (signed_decimal n) (signed_decimal n)).1 refl))

pub ruleset digit_steps = (text-read, text-other, text-unread)
