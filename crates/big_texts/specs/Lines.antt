-- The same of lines of JSON, token by token: without spaces, as outcomes are written.
use Rattle.std.specs.Prelude.{ℕ, ℤ, zero, suc, Bool, false, List, [], ◌∷◌, ◌++◌, flat_map, Ok, Err, if◌then◌else◌}
use Rattle.std.specs.Str.Lines.{lines}
use Rattle.json.specs.Token.{Token}
use Rattle.json.specs.Lex.{tokens}
use Rattle.json.specs.Print.{print}
use Rattle.json_read_names.specs.Parts.{Reading}
use Rattle.json_read_inputs.specs.ReadsNumber.{number_of_text}
use Rattle.big_texts.specs.declared.place.Place.{Place}
use Rattle.big_texts.specs.declared.place.Place.TheVariants.{Outside, Before, Inside}
use Rattle.big_texts.specs.BigTexts.{is_big, stays}

-- ---- where a token stands

-- behind the value of a member that stays, or inside one list or object less
abbrev pub less : ℕ → Place
less zero = Outside
less (suc n) = Inside n

-- behind a bracket that begins a list or an object
abbrev pub opened : Place → Place
opened Outside = Outside
opened Before = Inside 0
opened (Inside n) = Inside (suc n)

-- behind one that ends it
abbrev pub closed : Place → Place
closed Outside = Outside
closed Before = Outside
closed (Inside n) = less n

abbrev pub behind_key : List ℕ → Place → Place
behind_key key Outside = if stays key then Before else Outside
behind_key key Before = Outside
behind_key key (Inside n) = Inside n

-- behind a text, a number, a truth value or null
abbrev pub behind_one : Place → Place
behind_one Outside = Outside
behind_one Before = Outside
behind_one (Inside n) = Inside n

abbrev pub behind : Place → Token → Place
behind place Token.begin_object = opened place
behind place Token.end_object = closed place
behind place Token.begin_array = opened place
behind place Token.end_array = closed place
behind place (Token.key key) = behind_key key place
behind place (Token.string s) = behind_one place
behind place (Token.number s) = behind_one place
behind place (Token.boolean b) = behind_one place
behind place Token.null = behind_one place
behind place Token.bad = behind_one place

-- ---- tokens

abbrev pub is_big_reading : Reading ℤ → Bool
is_big_reading (Ok n) = is_big n
is_big_reading (Err fault) = false

-- a number of 128 bits that is big, by its digits
abbrev pub is_big_text : List ℕ → Bool
is_big_text digits = is_big_reading (number_of_text digits)

abbrev pub number_token : Place → List ℕ → Token
number_token Outside digits = if is_big_text digits then Token.string digits else Token.number digits
number_token Before digits = Token.number digits
number_token (Inside n) digits = Token.number digits

abbrev pub told : Place → Token → Token
told place Token.begin_object = Token.begin_object
told place Token.end_object = Token.end_object
told place Token.begin_array = Token.begin_array
told place Token.end_array = Token.end_array
told place (Token.key key) = Token.key key
told place (Token.string s) = Token.string s
told place (Token.number digits) = number_token place digits
told place (Token.boolean b) = Token.boolean b
told place Token.null = Token.null
told place Token.bad = Token.bad

abbrev pub told_from : Place → List Token → List Token
told_from place [] = []
told_from place (t ∷ ts) = told place t ∷ told_from (behind place t) ts

-- ---- lines

abbrev pub line_with_texts : List ℕ → List ℕ
line_with_texts line = print (told_from Outside (tokens line))

-- each line, and a line feed
abbrev pub big_as_text : List ℕ → List ℕ
big_as_text text = flat_map (λ line. line_with_texts line ++ 10 ∷ []) (lines text)
