-- What a JSON value stands for as a state, and as amounts of tokens. What ends in `_by` takes the reading of a number.
use Rattle.std.specs.Prelude.{ℕ, ℤ, pos, List, ◌&&◌, Ok, Err, codes, int_lt, if◌then◌else◌}
use Rattle.std.specs.declared.cmp.Ordering.{Ordering}
use Rattle.std.specs.FinMap.{FinMap, empty, contains_key, insert}
use Rattle.serde_json.specs.Data.{Data, Items, no_items, item}
use Rattle.serde_json.specs.Find.{as_array}
use Rattle.contract.specs.Names.declared.account.Account.{Account}
use Rattle.contract.specs.Names.declared.token.Token.{Token}
use Rattle.contract.specs.Names.declared.choice_id.ChoiceId.{ChoiceId}
use Rattle.contract.specs.Names.Orders.{bytes_cmp, account_cmp, choice_id_cmp}
use Rattle.contract.specs.States.States.{StateMaps}
use Rattle.json_read_names.specs.Forms.{has_two}
use Rattle.contract.specs.Collections.Answers.{◌>>=◌}
use Rattle.json_read_names.specs.Parts.{Reading, needed, reading_at, text, whole_number, time, pair}
use Rattle.json_read_names.specs.ReadsNames.{party, token, choice_id}
use Rattle.json_read_names.specs.declared.fault.JsonFault.TheVariants.{NoForm, BadState}
use Rattle.json_read_inputs.specs.ReadsNumber.{number_or_text}

-- [party, token]
abbrev pub account : Data → Reading Account
account d = do
  p ← pair d
  owner ← party p.0
  token ← token p.1
  Ok (record { owner = owner; token = token })

-- [[party, token], number]: the number is above 0
unfoldable pub account_row_by : (Data → Reading ℤ) → Data → Reading (Account × ℤ)
account_row_by number d = do
  p ← pair d
  account ← account p.0
  amount ← number p.1
  if int_lt (pos 0) amount then Ok (account, amount) else Err BadState

-- [token, number]: the number is above 0
unfoldable pub amount_row_by : (Data → Reading ℤ) → Data → Reading (Token × ℤ)
amount_row_by number d = do
  p ← pair d
  token ← token p.0
  amount ← number p.1
  if int_lt (pos 0) amount then Ok (token, amount) else Err BadState

-- [choice id, number]
unfoldable pub choice_row_by : (Data → Reading ℤ) → Data → Reading (ChoiceId × ℤ)
choice_row_by number d = do
  p ← pair d
  id ← choice_id p.0
  chosen ← number p.1
  Ok (id, chosen)

-- [text, number]
unfoldable pub bound_row_by : (Data → Reading ℤ) → Data → Reading (List ℕ × ℤ)
bound_row_by number d = do
  p ← pair d
  name ← text p.0
  value ← number p.1
  Ok (name, value)

-- row after row goes into a map in which its key isn't yet
unfoldable pub rows_into : {K : Type 0} {R : K → K → Ordering} → (Data → Reading (K × ℤ)) → FinMap R ℤ → Items → Reading (FinMap R ℤ)
rows_into row map no_items = Ok map
rows_into row map (item d ds) = row d >>= λ e.
    if contains_key map e.0 then Err BadState else rows_into row (insert map e.0 e.1) ds

-- a list of rows, each key once
abbrev pub rows : {K : Type 0} (R : K → K → Ordering) → (Data → Reading (K × ℤ)) → Data → Reading (FinMap R ℤ)
rows R row d = needed (as_array d) >>= rows_into row empty

abbrev pub state_by : (Data → Reading ℤ) → Data → Reading StateMaps
state_by number d =
    if has_two (codes "accounts") (codes "choices") d && has_two (codes "boundValues") (codes "minTime") d then (do
      accounts ← reading_at (rows account_cmp (account_row_by number)) d (codes "accounts")
      choices ← reading_at (rows choice_id_cmp (choice_row_by number)) d (codes "choices")
      bound_values ← reading_at (rows bytes_cmp (bound_row_by number)) d (codes "boundValues")
      min_time ← reading_at time d (codes "minTime")
      Ok (record { accounts = accounts; choices = choices; bound_values = bound_values; min_time = min_time }))
    else Err NoForm

-- ---- each number is a whole one

abbrev pub account_row : Data → Reading (Account × ℤ)
account_row = account_row_by whole_number

abbrev pub amount_row : Data → Reading (Token × ℤ)
amount_row = amount_row_by whole_number

abbrev pub state : Data → Reading StateMaps
state = state_by whole_number

-- ---- or a text of its digits, as it is written where JSON doesn't have it

abbrev pub state_with_texts : Data → Reading StateMaps
state_with_texts = state_by number_or_text
