-- Which transactions texts stand for, one text behind the other.
use Rattle.std.specs.Prelude.{◌≡◌, ℕ, suc, nat_lt, Bool, not, ◌||◌, ◌==◌, List, [], ◌∷◌, map, filter, flat_map, Option, Some, None, Result, Ok, Err, if◌then◌else◌}
use Rattle.std.specs.List.{list_all, slice_split}
use Rattle.contract.specs.Collections.Answers.{◌>>=◌}
use Rattle.contract.specs.declared.transaction.Transaction.{Transaction}
use Rattle.serde_json.specs.Data.{Data, Items, no_items, item}
use Rattle.serde_json.specs.Find.{as_array}
use Rattle.json_read_names.specs.Parts.{Reading}
use Rattle.json_read_names.specs.ReadsText.{json_of, of_text}
use Rattle.json_read_names.specs.declared.fault.JsonFault.TheVariants.{NotJson}
use Rattle.json_read_inputs.specs.ReadsInput.{transaction}
use Rattle.json_read_transactions.specs.declared.fault.ReadFault.{ReadFault}
use Rattle.json_read_transactions.specs.declared.fault.ReadFault.TheVariants as faults

-- ---- one text: whole it is a transaction or a list of them, and where it is no JSON each of its lines is one

-- a space, a tab or a carriage return
abbrev pub is_blank : ℕ → Bool
is_blank b = b == 32 || (b == 9 || b == 13)

-- a line ends at a line feed; those of blanks alone are left out
abbrev pub lines : List ℕ → List (List ℕ)
lines text = filter (λ line. not (list_all is_blank line)) (slice_split (λ b. b == 10) text)

abbrev pub item_readings : Items → List (Reading Transaction)
item_readings no_items = []
item_readings (item d ds) = transaction d ∷ item_readings ds

abbrev items_or : Data → Option Items → List (Reading Transaction)
items_or d None = transaction d ∷ []
items_or d (Some ds) = item_readings ds

-- the readings of a list's items, or the one of another value
abbrev pub value_readings : Data → List (Reading Transaction)
value_readings d = items_or d (as_array d)

abbrev pub readings_by : List ℕ → Reading Data → List (Reading Transaction)
readings_by text (Ok d) = value_readings d
readings_by text (Err NotJson) = map (of_text transaction) (lines text)
readings_by text (Err fault) = Err fault ∷ []

-- the readings of what stands for transactions in a text, in order
unfoldable pub readings : List ℕ → List (Reading Transaction)
readings text = readings_by text (json_of text)

-- ---- texts, one behind the other

-- how many transactions are read at most
abbrev pub most : ℕ
most = 10000

-- a reading behind so many others: its fault is that of a transaction, by its number from 1
abbrev pub numbered : ℕ → Reading Transaction → Result Transaction ReadFault
numbered before (Ok t) = Ok t
numbered before (Err fault) = Err (faults.Text (suc before) fault)

-- the transactions of readings behind so many others. The first fault that is met is told, and one that is too many is one
abbrev pub taken : ℕ → List (Reading Transaction) → Result (List Transaction) ReadFault
taken before [] = Ok []
taken before (r ∷ rs) = if nat_lt before most then (numbered before r >>= λ t. taken (suc before) rs >>= λ ts. Ok (t ∷ ts)) else Err faults.TooMany

-- the transactions of texts
unfoldable pub transactions_of : List (List ℕ) → Result (List Transaction) ReadFault
transactions_of texts = taken 0 (flat_map readings texts)

-- ---- laws

-- a text of one transaction is read as that one alone
abbrev pub OneIsReadAlone : Type 0
OneIsReadAlone = (text : List ℕ) (t : Transaction) → of_text transaction text ≡ Ok t → transactions_of (text ∷ []) ≡ Ok (t ∷ [])

-- what is read behind others is read by itself
abbrev pub RestIsRead : Type 0
RestIsRead = (text : List ℕ) (texts : List (List ℕ)) (t : Transaction) (ts : List Transaction) → of_text transaction text ≡ Ok t → transactions_of (text ∷ texts) ≡ Ok (t ∷ ts) → transactions_of texts ≡ Ok ts
