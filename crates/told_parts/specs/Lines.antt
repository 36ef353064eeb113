-- The lines for people.
use Rattle.std.specs.Prelude.{ℕ, nat_lt, nat_le, ◌&&◌, ◌||◌, Bool, true, false, not, List, [], ◌∷◌, ◌++◌, ◌-◌, length, take, flat_map, find, if◌then◌else◌, Option, Some, None, codes, decimal, chars, encode_utf8, encode_utf8_all}
use Rattle.std.specs.List.{list_all}
use Rattle.serde_json.specs.Data.{string}
use Rattle.serde_json.specs.Written.{compact_text}
use Rattle.json.specs.Token.{Token}
use Rattle.json_read_names.specs.declared.fault.JsonFault.{JsonFault}
use Rattle.json_read_names.specs.declared.fault.JsonFault.TheVariants as faults
use Rattle.text_spots.specs.declared.spots.Spot.{Spot}
use Rattle.text_spots.specs.Shown.{is_among, shown, path_shown}
use Rattle.json_forms.specs.declared.sort.Numbers.TheVariants as numbers
use Rattle.json_forms.specs.declared.sort.Sort.{Sort}
use Rattle.json_forms.specs.declared.sort.Sort.TheVariants as sorts
use Rattle.json_forms.specs.declared.sort.ScenarioSort.TheVariants as parts
use Rattle.json_forms.specs.declared.form.Form.{Form}
use Rattle.json_forms.specs.Forms.{Field, key_word, forms_of}
use Rattle.json_forms.specs.Lacking.{is_there, lacking, meant, nearest}
use Rattle.json_stops.specs.declared.stop.Step.{Step}
use Rattle.json_stops.specs.declared.stop.Step.TheVariants as steps
use Rattle.told_parts.specs.Words.{sort_text, bare_sort_text, sort_hint, form_text, kinds_text}
use Rattle.told_parts.specs.Told.{Told}

-- ---- where

abbrev pub step_text : Step → List ℕ
step_text (steps.Key k) = codes "." ++ key_word k
step_text (steps.Item n) = codes "[" ++ (decimal n ++ codes "]")

abbrev pub path_text : List Step → List ℕ
path_text path = flat_map step_text path

-- the whole has no path
abbrev pub at_text : List Step → List ℕ
at_text [] = []
at_text (step ∷ path) = codes " at " ++ path_shown (path_text (step ∷ path))

abbrev pub spot_text : List ℕ → Spot → List ℕ
spot_text file spot = codes "  " ++ (file ++ (codes ":" ++ (decimal spot.line ++ (codes ":" ++ decimal spot.column))))

abbrev pub where_text : List ℕ → Spot → List Step → List ℕ
where_text file spot path = spot_text file spot ++ (at_text path ++ codes ": ")

-- ---- what stands there

-- a text as it stands in JSON, and any other piece
abbrev pub piece_shown : List ℕ → List ℕ
piece_shown bytes = encode_utf8_all (shown (chars bytes))

abbrev pub text_shown : List ℕ → List ℕ
text_shown bytes = piece_shown (compact_text (string bytes))

abbrev pub token_text : Token → List ℕ
token_text Token.begin_object = codes "an object"
token_text Token.end_object = codes "nothing"
token_text Token.begin_array = codes "a list"
token_text Token.end_array = codes "nothing"
token_text (Token.key s) = text_shown s
token_text (Token.string s) = text_shown s
token_text (Token.number s) = piece_shown s
token_text (Token.boolean true) = codes "true"
token_text (Token.boolean false) = codes "false"
token_text Token.null = codes "null"
token_text Token.bad = codes "nothing"

-- nine keys more at most
abbrev pub next_key_text : List ℕ → List ℕ
next_key_text k = codes ", " ++ text_shown k

abbrev pub others_text : ℕ → List ℕ
others_text count = if nat_lt 9 count then codes ", .." else []

abbrev pub more_keys_text : List (List ℕ) → List ℕ
more_keys_text ks = flat_map next_key_text (take 9 ks) ++ others_text (length ks)

-- the first ten keys
abbrev pub keys_text : List (List ℕ) → List ℕ
keys_text [] = codes "it has no keys"
keys_text (k ∷ ks) = codes "its keys are " ++ (text_shown k ++ more_keys_text ks)

abbrev pub stands_text : Token → List ℕ
stands_text token = codes "here stands " ++ token_text token

abbrev pub keys_or_token : Token → List (List ℕ) → List ℕ
keys_or_token Token.begin_object keys = keys_text keys
keys_or_token token keys = stands_text token

-- ---- why

abbrev pub form_wanted_text : Told → List ℕ
form_wanted_text t = (codes "no form of " ++ (sort_text t.sort ++ codes "; ")) ++ keys_or_token t.token t.keys

-- the path to another item of the same list
abbrev pub beside : List Step → ℕ → List Step
beside path n = take (length path - 1) path ++ steps.Item n ∷ []

abbrev pub first_spot_text : Option Spot → List ℕ
first_spot_text None = []
first_spot_text (Some spot) = decimal spot.line ++ (codes ":" ++ (decimal spot.column ++ codes ", "))

abbrev pub repeated_text : Told → ℕ → List ℕ
repeated_text t n = codes "no second entry for one key; the first stands at " ++ (first_spot_text t.first ++ path_shown (path_text (beside t.path n)))

-- a sort that has no forms of objects is a list, a text or a number
abbrev pub no_form_text : List Form → Told → List ℕ
no_form_text [] t = codes "no " ++ (bare_sort_text t.sort ++ (codes "; " ++ stands_text t.token))
no_form_text (form ∷ forms) t = form_wanted_text t

abbrev pub bad_state_text : Sort → Told → List ℕ
bad_state_text (sorts.Repeated n) t = repeated_text t n
bad_state_text sort t = no_form_text [] t

abbrev pub fault_text : JsonFault → Told → List ℕ
fault_text faults.NoForm t = no_form_text (forms_of t.sort) t
fault_text faults.NotWhole t = codes "no whole number; " ++ stands_text t.token
fault_text faults.OutOfRange t = no_form_text [] t
fault_text faults.BadHex t = codes "no hexadecimal digits; " ++ stands_text t.token
fault_text faults.Merkleized t = codes "no contract follows, but its hash"
fault_text faults.BadState t = bad_state_text t.sort t
fault_text other t = []

-- ---- what to do

-- a number that was put into quotation marks
abbrev pub is_digit : ℕ → Bool
is_digit c = is_among 48 57 c

abbrev pub are_digits : List ℕ → Bool
are_digits [] = false
are_digits (c ∷ cs) = list_all is_digit (c ∷ cs)

abbrev pub is_digits : Token → Bool
is_digits (Token.string s) = are_digits s
is_digits token = false

abbrev pub is_of_numbers : Sort → Bool
is_of_numbers sorts.Value = true
is_of_numbers sorts.Whole = true
is_of_numbers sorts.Time = true
is_of_numbers (sorts.Amount numbers.Whole) = true
is_of_numbers (sorts.OfScenario parts.Count) = true
is_of_numbers (sorts.OfScenario parts.Workers) = true
is_of_numbers (sorts.OfScenario parts.Calls) = true
is_of_numbers sort = false

abbrev pub is_of_contracts : Sort → Bool
is_of_contracts sorts.Contract = true
is_of_contracts sort = false

abbrev pub wants_text : Form → Field → List ℕ
wants_text form field = form_text form ++ (codes " wants \"" ++ (key_word field.0 ++ codes "\""))

abbrev pub lacking_text : Sort → Form → Option Field → List ℕ
lacking_text sort form None = sort_hint sort
lacking_text sort form (Some field) = wants_text form field

abbrev pub meant_text : Sort → List (List ℕ) → Option Form → List ℕ
meant_text sort keys None = sort_hint sort
meant_text sort keys (Some form) = lacking_text sort form (lacking keys form)

-- the keys by which a form is sought: among more than 100 none is
abbrev pub sought : List (List ℕ) → List (List ℕ)
sought keys = if nat_le (length keys) 100 then keys else []

abbrev pub sought_text : Sort → List (List ℕ) → List ℕ
sought_text sort keys = meant_text sort keys (meant keys sort)

abbrev pub no_form_hint : Told → List ℕ
no_form_hint t =
    if is_there t.keys (codes "constant_param") then codes "fill in the template first: \"constant_param\" stands for a number"
    else (if is_there t.keys (codes "time_param") then codes "fill in the template first: \"time_param\" stands for a time"
    else (if is_of_contracts t.sort && is_there t.keys (codes "contract") then codes "take out what stands behind \"contract\""
    else (if is_of_numbers t.sort && is_digits t.token then codes "a number stands without quotation marks"
    else sought_text t.sort (sought t.keys))))

-- what is wrong with hexadecimal digits
abbrev pub is_hex : ℕ → Bool
is_hex c = is_digit c || (is_among 65 70 c || is_among 97 102 c)

abbrev pub letter_text : List ℕ → Option ℕ → List ℕ
letter_text s (Some c) = codes "the first letter that is none is " ++ text_shown (encode_utf8 c)
letter_text s None = codes "they come in pairs, and here are " ++ decimal (length s)

abbrev pub hex_hint : Token → List ℕ
hex_hint (Token.string s) = letter_text s (find (λ c. not (is_hex c)) (chars s))
hex_hint token = []

-- an account that holds nothing, or a key that stands twice
abbrev pub bad_state_hint : Sort → List ℕ
bad_state_hint (sorts.Repeated first) = sort_hint (sorts.Repeated first)
bad_state_hint sort = codes "an account holds a number above 0: leave out one that holds nothing"

abbrev pub hint_text : JsonFault → Told → List ℕ
hint_text faults.NoForm t = no_form_hint t
hint_text faults.NotWhole t = sort_hint sorts.Whole
hint_text faults.OutOfRange t = sort_hint t.sort
hint_text faults.BadHex t = hex_hint t.token
hint_text faults.Merkleized t = codes "put what follows in its place, as \"then\""
hint_text faults.BadState t = bad_state_hint t.sort
hint_text other t = []

-- ---- what may have been meant

abbrev pub near_line : Option (List ℕ) → List ℕ
near_line None = []
near_line (Some key) = codes "  nearest to it is " ++ (text_shown key ++ 10 ∷ [])

abbrev pub near_of : List (List ℕ) → Form → Option Field → Option (List ℕ)
near_of keys form None = None
near_of keys form (Some field) = nearest form (key_word field.0) keys

abbrev pub near_in : List (List ℕ) → Option Form → Option (List ℕ)
near_in keys None = None
near_in keys (Some form) = near_of keys form (lacking keys form)

-- the key that may have been meant for the one that lacks
abbrev pub near_key : Sort → List (List ℕ) → Option (List ℕ)
near_key sort keys = near_in keys (meant keys sort)

-- ---- all lines

abbrev pub near_sought : Sort → List (List ℕ) → List ℕ
near_sought sort keys = near_line (near_key sort keys)

-- the names that there are, ten at most
abbrev pub names_text : List ℕ → List (List ℕ) → List ℕ
names_text kinds [] = codes "  there are no " ++ (kinds ++ codes "\n")
names_text kinds (n ∷ ns) = (codes "  the " ++ (kinds ++ codes " are ")) ++ (text_shown n ++ (more_keys_text ns ++ codes "\n"))

-- of a name that none has
abbrev pub names_line : Sort → List (List ℕ) → List ℕ
names_line (sorts.OfScenario (parts.NameOf kind)) names = names_text (kinds_text kind) names
names_line sort names = []

abbrev pub hint_line : List ℕ → List ℕ
hint_line hint = codes "\n  " ++ (hint ++ codes "\n")

abbrev pub lines_of : List ℕ → Told → List ℕ
lines_of file t =
    where_text file t.spot t.path ++ (fault_text t.fault t ++ (hint_line (hint_text t.fault t) ++ (near_sought t.sort (sought t.keys) ++ names_line t.sort t.names)))
