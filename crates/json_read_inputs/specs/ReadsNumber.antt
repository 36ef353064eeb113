-- What a JSON value stands for as a number that may be a text of its digits.
use Rattle.std.specs.Prelude.{ℕ, ℤ, pos, neg_ℤ, ◌^◌, int_le, int_lt, Bool, ◌&&◌, List, Option, Some, None, Ok, Err, if◌then◌else◌}
use Rattle.std.specs.Fmt.{signed_decimal}
use Rattle.std.specs.Str.Parse.{signed_digits_value}
use Rattle.serde_json.specs.Data.{Data}
use Rattle.serde_json.specs.Find.{as_str}
use Rattle.contract.specs.Names.Equal.{same_text}
use Rattle.json_read_names.specs.Parts.{Reading, whole_number}
use Rattle.json_read_names.specs.declared.fault.JsonFault.TheVariants.{NoForm}

-- from -2^127 to 2^127 - 1
unfoldable pub is_in_128_bits : ℤ → Bool
is_in_128_bits n = int_le (neg_ℤ (pos (2 ^ 127))) n && int_lt n (pos (2 ^ 127))

-- the text is that of the number's decimal digits: `0`, or digits of which the first isn't 0, behind a `-` where it is below 0
abbrev pub is_text_of : ℤ → List ℕ → Bool
is_text_of n text = same_text (signed_decimal n) text

-- the number of 128 bits whose text it is
unfoldable pub number_of_text : List ℕ → Reading ℤ
number_of_text text =
    if is_in_128_bits (signed_digits_value 10 text) && is_text_of (signed_digits_value 10 text) text then Ok (signed_digits_value 10 text) else Err NoForm

abbrev text_or : Reading ℤ → Option (List ℕ) → Reading ℤ
text_or other None = other
text_or other (Some text) = number_of_text text

-- a whole number, or the text of one of 128 bits
abbrev pub number_or_text : Data → Reading ℤ
number_or_text d = text_or (whole_number d) (as_str d)
