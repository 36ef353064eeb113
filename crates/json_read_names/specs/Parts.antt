-- What a reading is, and the readings of the parts that all forms share: members, texts, bytes, whole
-- numbers, times and lists.
use Rattle.std.specs.Prelude.{ℕ, ℤ, pos, List, [], ◌∷◌, ◌^◌, nat_lt, Option, Some, None, Result, Ok, Err, if◌then◌else◌}
use Rattle.serde_json.specs.Data.{Num, unsigned, negative, float, Data, Items, no_items, item}
use Rattle.serde_json.specs.Find.{get, as_str, as_array, as_number, as_integer}
use Rattle.hex.specs.Hex.{decode_of}
use Rattle.hex.specs.declared.error.FromHexError.{FromHexError}
use Rattle.names.specs.Collections.Answers.{◌>>=◌}
use Rattle.json_read_names.specs.declared.fault.JsonFault.{JsonFault}
use Rattle.json_read_names.specs.declared.fault.JsonFault.TheVariants as faults

-- what a value stands for, or the fault for which it stands for nothing
abbrev pub Reading : Type 0 → Type 0
Reading X = Result X JsonFault

abbrev pub needed : {X : Type 0} → Option X → Reading X
needed None = Err faults.NoForm
needed (Some x) = Ok x

-- the member at a key
abbrev pub member_at : List ℕ → Data → Reading Data
member_at key d = needed (get key d)

-- the readings of an object's members, by key
abbrev pub ByKey : Type 0 → Type 0
ByKey X = List ℕ → Reading X

-- the reading of the member at a key
abbrev pub reading_at : {X : Type 0} → (Data → Reading X) → Data → ByKey X
reading_at reading d key = member_at key d >>= reading

-- two readings, the first before the second
abbrev pub both_readings : {A B : Type 0} → Reading A → Reading B → Reading (A × B)
both_readings first second = do
  a ← first
  b ← second
  Ok (a, b)

-- what is made of one reading, and of two, the first before the second
abbrev pub of_one : {A B : Type 0} → (A → B) → Reading A → Reading B
of_one make reading = reading >>= λ x. Ok (make x)

abbrev pub of_two : {A B C : Type 0} → (A → B → C) → Reading A → Reading B → Reading C
of_two make first second = both_readings first second >>= λ p. Ok (make p.0 p.1)

-- nothing is inside
abbrev pub nowhere : {X : Type 0} → ByKey X
nowhere key = Err faults.NoForm

-- a text
abbrev pub text : Data → Reading (List ℕ)
text d = needed (as_str d)

abbrev pub decoded : Result (List ℕ) FromHexError → Reading (List ℕ)
decoded (Ok bytes) = Ok bytes
decoded (Err error) = Err faults.BadHex

-- bytes, as a text of hexadecimal digits
abbrev pub bytes : Data → Reading (List ℕ)
bytes d = text d >>= λ digits. decoded (decode_of digits)

abbrev pub integer : Option ℤ → Reading ℤ
integer None = Err faults.NotWhole
integer (Some n) = Ok n

-- a whole number
abbrev pub whole_number : Data → Reading ℤ
whole_number d = needed (as_number d) >>= λ n. integer (as_integer n)

abbrev pub time_number : Num → Reading ℤ
time_number (unsigned n) = if nat_lt n (2 ^ 63) then Ok (pos n) else Err faults.OutOfRange
time_number (negative z) = Ok z
time_number (float x) = Err faults.NotWhole

-- a time
abbrev pub time : Data → Reading ℤ
time d = needed (as_number d) >>= time_number

-- the readings of all items, in order
abbrev pub all_items : {X : Type 0} → (Data → Reading X) → Items → Reading (List X)
all_items reading no_items = Ok []
all_items reading (item d ds) = reading d >>= λ x. all_items reading ds >>= λ xs. Ok (x ∷ xs)

-- a list, whose items have one reading
abbrev pub list : {X : Type 0} → (Data → Reading X) → Data → Reading (List X)
list reading d = needed (as_array d) >>= all_items reading

abbrev pub two_items : Items → Reading (Data × Data)
two_items (item a (item b no_items)) = Ok (a, b)
two_items ds = Err faults.NoForm

-- a list of just two
abbrev pub pair : Data → Reading (Data × Data)
pair d = needed (as_array d) >>= two_items
