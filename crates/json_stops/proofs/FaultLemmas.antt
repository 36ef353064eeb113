-- The fault of a value of each sort, by those of its parts.
use Rattle.std.proofs.Common.{◌≡◌, ℕ, List, ℤ, pos, Bool, true, false, Ok, Err, refl, ap, ◌∙◌}
use Rattle.std.specs.Prelude.{◌&&◌, codes, int_lt, if◌then◌else◌}
use Rattle.std.specs.FinMap.{FinMap}
use Rattle.serde_json.specs.Data.{Data}
use Rattle.serde_json.specs.Find.{get, as_array}
use Rattle.contract.specs.Names.declared.party.Party.{Party}
use Rattle.contract.specs.Names.declared.party.Party.TheVariants as parties
use Rattle.contract.specs.Names.declared.token.Token.{Token}
use Rattle.contract.specs.Names.declared.account.Account.{Account}
use Rattle.contract.specs.Names.declared.choice_id.ChoiceId.{ChoiceId}
use Rattle.contract.specs.Names.Orders.{bytes_cmp, account_cmp, choice_id_cmp, token_cmp}
use Rattle.contract.specs.Names.Totals.{bytes_total, account_total, choice_id_total, token_total}
use Rattle.contract.specs.States.States.{StateMaps}
use Rattle.contract.specs.Names.declared.bound.Bound.{Bound}
use Rattle.contract.specs.declared.input.Input.{Input}
use Rattle.contract.specs.declared.interval.Interval.{Interval}
use Rattle.contract.specs.declared.transaction.Transaction.{Transaction}
use Rattle.contract.specs.Names.declared.payee.Payee.TheVariants as payees
use Rattle.contract.specs.Collections.Answers.{◌>>=◌}
use Rattle.json_read_names.specs.Forms.{has, has_two, contract_form, case_form, action_form, value_form, observation_form, input_form}
use Rattle.json_read_names.specs.Parts.{Reading, reading_at, of_one, text, bytes, whole_number, time, list, pair}
use Rattle.json_read_names.specs.ReadsNames.{party, token, choice_id, bound}
use Rattle.json_read_names.specs.declared.fault.JsonFault.TheVariants.{NoForm, BadState}
use Rattle.json_read_values.proofs.ValueSteps.{value-step, observation-step}
use Rattle.json_read_contracts.specs.ReadsContract.{case}
use Rattle.json_read_contracts.proofs.ContractSteps.{contract-step, case-step}
use Rattle.json_read_inputs.specs.ReadsInput.{interval, input}
use Rattle.json_read_inputs.specs.ReadsNumber.{number_or_text}
use Rattle.json_read_inputs.specs.ReadsState.{account, account_row_by, choice_row_by, bound_row_by, amount_row_by, amount_row, rows}
use Rattle.json_forms.specs.declared.sort.Numbers.{Numbers}
use Rattle.json_forms.specs.declared.sort.Numbers.TheVariants as numbers
use Rattle.json_forms.specs.declared.sort.Sort.{Sort}
use Rattle.json_forms.specs.declared.sort.Sort.TheVariants as sorts
use Rattle.json_forms.specs.declared.form.Form.TheVariants as forms
use Rattle.json_stops.specs.FormsRead.{shape_of, only_form, either_form, number, number_sort, amount}
use Rattle.json_stops.specs.Repeats.{entry_key}
use Rattle.json_stops.specs.Stops.{fault_of, fault_as}
use Rattle.json_stops.specs.StopsSupport.{fields_fault, pair_fault, fault_by}
use Rattle.json_stops.proofs.ChainLemmas.{field_then, itself_fault, list_is, pair_then, made_fault, number_is, amount_fault}
use Rattle.json_stops.proofs.RepeatLemmas.{rows_is, key_is, number_kept, amount_kept}
use Rattle.json_stops.proofs.FormLemmas.{value_fault, observation_fault, action_fault, contract_fault, case_fault, input_fault}

-- ---- what is made of two
abbrev made_token : List ℕ → List ℕ → Token
made_token symbol name = record { symbol = symbol; name = name }

abbrev made_choice_id : List ℕ → Party → ChoiceId
made_choice_id name owner = record { name = name; owner = owner }

abbrev made_bound : ℤ → ℤ → Bound
made_bound from to = record { from = from; to = to }

abbrev made_transaction : Interval → List Input → Transaction
made_transaction interval inputs = record { interval = interval; inputs = inputs }

abbrev made_interval : ℤ → ℤ → Interval
made_interval from to = record { from = from; to = to }

module _ (d : Data) where
  -- ---- by one of two keys
  party_fault : (b : Bool)
      → fault_of (if b then of_one parties.Address (reading_at text d (codes "address")) else of_one parties.Role (reading_at text d (codes "role_token"))) ≡ fields_fault d (either_form b forms.Address forms.Role)
  unfolding either_form
  party_fault true = field_then sorts.Text (get (codes "address") d) text _ _ (λ e. refl) (λ x. refl)
  party_fault false = field_then sorts.Text (get (codes "role_token") d) text _ _ (λ e. refl) (λ x. refl)

  payee_fault : (b : Bool)
      → fault_of (if b then of_one payees.Account (reading_at party d (codes "account")) else of_one payees.Party (reading_at party d (codes "party"))) ≡ fields_fault d (either_form b forms.ToAccount forms.ToParty)
  unfolding either_form
  payee_fault true = field_then sorts.Party (get (codes "account") d) party _ _ (λ e. refl) (λ x. refl)
  payee_fault false = field_then sorts.Party (get (codes "party") d) party _ _ (λ e. refl) (λ x. refl)

  -- ---- by both keys
  token_fault : (b : Bool)
      → fault_of (if b then (reading_at bytes d (codes "currency_symbol") >>= λ first. reading_at text d (codes "token_name") >>= λ second. Ok (made_token first second)) else Err NoForm) ≡ fields_fault d (only_form b forms.Token)
  unfolding only_form
  token_fault true = field_then sorts.Hex (get (codes "currency_symbol") d) bytes _ _ (λ e. refl) (λ x. field_then sorts.Text (get (codes "token_name") d) text _ _ (λ e. refl) (λ y. refl))
  token_fault false = refl

  choice_id_fault : (b : Bool)
      → fault_of (if b then (reading_at text d (codes "choice_name") >>= λ first. reading_at party d (codes "choice_owner") >>= λ second. Ok (made_choice_id first second)) else Err NoForm) ≡ fields_fault d (only_form b forms.ChoiceId)
  unfolding only_form
  choice_id_fault true = field_then sorts.Text (get (codes "choice_name") d) text _ _ (λ e. refl) (λ x. field_then sorts.Party (get (codes "choice_owner") d) party _ _ (λ e. refl) (λ y. refl))
  choice_id_fault false = refl

  bound_fault : (b : Bool)
      → fault_of (if b then (reading_at whole_number d (codes "from") >>= λ first. reading_at whole_number d (codes "to") >>= λ second. Ok (made_bound first second)) else Err NoForm) ≡ fields_fault d (only_form b forms.Bound)
  unfolding only_form
  bound_fault true = field_then sorts.Whole (get (codes "from") d) whole_number _ _ (λ e. refl) (λ x. field_then sorts.Whole (get (codes "to") d) whole_number _ _ (λ e. refl) (λ y. refl))
  bound_fault false = refl

  transaction_fault : (b : Bool)
      → fault_of (if b then (reading_at interval d (codes "tx_interval") >>= λ first. reading_at (list input) d (codes "tx_inputs") >>= λ second. Ok (made_transaction first second)) else Err NoForm) ≡ fields_fault d (only_form b forms.Transaction)
  unfolding only_form
  transaction_fault true = field_then sorts.Interval (get (codes "tx_interval") d) interval _ _ (λ e. refl) (λ x. field_then sorts.Inputs (get (codes "tx_inputs") d) (list input) _ _ (λ e. refl) (λ y. refl))
  transaction_fault false = refl

  interval_fault : (b : Bool)
      → fault_of (if b then (reading_at time d (codes "from") >>= λ first. reading_at time d (codes "to") >>= λ second. Ok (made_interval first second)) else Err NoForm) ≡ fields_fault d (only_form b forms.Interval)
  unfolding only_form
  interval_fault true = field_then sorts.Time (get (codes "from") d) time _ _ (λ e. refl) (λ x. field_then sorts.Time (get (codes "to") d) time _ _ (λ e. refl) (λ y. refl))
  interval_fault false = refl

-- ---- states

abbrev made_account : Party → Token → Account
made_account owner token = record { owner = owner; token = token }

abbrev made_state : FinMap account_cmp ℤ → FinMap choice_id_cmp ℤ → FinMap bytes_cmp ℤ → ℤ → StateMaps
made_state accounts choices bound_values min_time = record { accounts = accounts; choices = choices; bound_values = bound_values; min_time = min_time }

module _ (ns : Numbers) where
  abbrev accounts_read : Data → Reading (FinMap account_cmp ℤ)
  accounts_read = rows account_cmp (account_row_by (number ns))

  abbrev choices_read : Data → Reading (FinMap choice_id_cmp ℤ)
  choices_read = rows choice_id_cmp (choice_row_by (number ns))

  abbrev bound_values_read : Data → Reading (FinMap bytes_cmp ℤ)
  bound_values_read = rows bytes_cmp (bound_row_by (number ns))

  state_fault : (d : Data) (b : Bool)
      → fault_of
      (if b then (reading_at accounts_read d (codes "accounts") >>= λ accounts. reading_at choices_read d (codes "choices") >>= λ choices. reading_at bound_values_read d (codes "boundValues") >>= λ bound_values. reading_at time d (codes "minTime") >>= λ min_time. Ok (made_state accounts choices bound_values min_time))
      else Err NoForm)
      ≡ fields_fault d (only_form b (forms.State ns))
  unfolding only_form
  state_fault d true =
      field_then (sorts.Accounts ns) (get (codes "accounts") d) accounts_read _ _ (λ e. refl)
      (λ a. field_then (sorts.Choices ns) (get (codes "choices") d) choices_read _ _ (λ e. refl)
      (λ b. field_then (sorts.BoundValues ns) (get (codes "boundValues") d) bound_values_read _ _ (λ e. refl) (λ c. field_then sorts.Time (get (codes "minTime") d) time _ _ (λ e. refl) (λ t. refl))))
  state_fault d false = refl

  -- entries, and their keys
  abbrev held : {K : Type 0} → K → Data → Reading (K × ℤ)
  held k e = number ns e >>= λ n. if int_lt (pos 0) n then Ok (k, n) else Err BadState

  abbrev kept : {K : Type 0} → K → Data → Reading (K × ℤ)
  kept k e = number ns e >>= λ n. Ok (k, n)

  account_entry_fault : (d : Data) → fault_of (account_row_by (number ns) d) ≡ pair_fault sorts.Account (sorts.Amount ns) (pair d)
  unfolding account_row_by
  account_entry_fault d = pair_then sorts.Account (sorts.Amount ns) (pair d) account held (λ e. refl) (λ a e. amount_fault (number ns e) (λ n. (a, n)))

  choice_entry_fault : (d : Data) → fault_of (choice_row_by (number ns) d) ≡ pair_fault sorts.ChoiceId (number_sort ns) (pair d)
  unfolding choice_row_by
  choice_entry_fault d = pair_then sorts.ChoiceId (number_sort ns) (pair d) choice_id kept (λ e. refl) (λ a e. made_fault (number ns e) (λ n. (a, n)) ∙ number_is ns e)

  bound_entry_fault : (d : Data) → fault_of (bound_row_by (number ns) d) ≡ pair_fault sorts.Text (number_sort ns) (pair d)
  unfolding bound_row_by
  bound_entry_fault d = pair_then sorts.Text (number_sort ns) (pair d) text kept (λ e. refl) (λ a e. made_fault (number ns e) (λ n. (a, n)) ∙ number_is ns e)

  account_key : (d : Data) (r : Account × ℤ) → account_row_by (number ns) d ≡ Ok r → entry_key account d ≡ Ok r.0
  unfolding account_row_by
  account_key d r e = key_is (pair d) account (λ e k. held k e) r (λ x k h. amount_kept (number ns x) k r h) e

  choice_key : (d : Data) (r : ChoiceId × ℤ) → choice_row_by (number ns) d ≡ Ok r → entry_key choice_id d ≡ Ok r.0
  unfolding choice_row_by
  choice_key d r e = key_is (pair d) choice_id (λ e k. kept k e) r (λ x k h. number_kept (number ns x) k r h) e

  bound_key : (d : Data) (r : List ℕ × ℤ) → bound_row_by (number ns) d ≡ Ok r → entry_key text d ≡ Ok r.0
  unfolding bound_row_by
  bound_key d r e = key_is (pair d) text (λ e k. kept k e) r (λ x k h. number_kept (number ns x) k r h) e

-- an amount of a token, and its key
amount_entry_fault : (d : Data) → fault_of (amount_row d) ≡ pair_fault sorts.Token (sorts.Amount numbers.Whole) (pair d)
unfolding amount_row_by
amount_entry_fault d =
    pair_then sorts.Token (sorts.Amount numbers.Whole) (pair d) token (held numbers.Whole) (λ e. refl) (λ a e. amount_fault (number numbers.Whole e) (λ n. (a, n)))

token_key : (d : Data) (r : Token × ℤ) → amount_row d ≡ Ok r → entry_key token d ≡ Ok r.0
unfolding amount_row_by
token_key d r e = key_is (pair d) token (λ e k. held numbers.Whole k e) r (λ x k h. amount_kept (number numbers.Whole x) k r h) e

account_fault : (d : Data) → fault_of (account d) ≡ pair_fault sorts.Party sorts.Token (pair d)
account_fault d = pair_then sorts.Party sorts.Token (pair d) party (λ a e. token e >>= λ t. Ok (made_account a t)) (λ e. refl) (λ a e. made_fault (token e) (made_account a))

-- the fault of a value of a sort is that of its form, or of the first part that has one
pub fault_is : (s : Sort) (d : Data) → fault_as s d ≡ fault_by (shape_of s) s d
fault_is sorts.Contract d = ap fault_of (contract-step d) ∙ contract_fault d (contract_form d)
fault_is sorts.Cases d = list_is sorts.Case case (λ e. refl) sorts.Cases (λ ds. refl) (as_array d)
fault_is sorts.Case d = ap fault_of (case-step d) ∙ case_fault d (case_form d)
fault_is sorts.Action d = action_fault d (action_form d)
fault_is sorts.Value d = ap fault_of (value-step d) ∙ value_fault d (value_form d)
fault_is sorts.Observation d = ap fault_of (observation-step d) ∙ observation_fault d (observation_form d)
fault_is sorts.Bounds d = list_is sorts.Bound bound (λ e. refl) sorts.Bounds (λ ds. refl) (as_array d)
fault_is sorts.Bound d = bound_fault d (has_two (codes "from") (codes "to") d)
fault_is sorts.ChoiceId d = choice_id_fault d (has_two (codes "choice_name") (codes "choice_owner") d)
fault_is sorts.Token d = token_fault d (has_two (codes "currency_symbol") (codes "token_name") d)
fault_is sorts.Party d = party_fault d (has (codes "address") d)
fault_is sorts.Payee d = payee_fault d (has (codes "account") d)
fault_is sorts.Text d = itself_fault (text d) d
fault_is sorts.Hex d = itself_fault (bytes d) d
fault_is sorts.Whole d = itself_fault (whole_number d) d
fault_is sorts.Time d = itself_fault (time d) d
fault_is sorts.Transaction d = transaction_fault d (has_two (codes "tx_interval") (codes "tx_inputs") d)
fault_is sorts.Interval d = interval_fault d (has_two (codes "from") (codes "to") d)
fault_is sorts.Inputs d = list_is sorts.Input input (λ e. refl) sorts.Inputs (λ ds. refl) (as_array d)
fault_is sorts.Input d = input_fault d (input_form d)
fault_is (sorts.State ns) d = state_fault ns d (has_two (codes "accounts") (codes "choices") d && has_two (codes "boundValues") (codes "minTime") d)
fault_is (sorts.Accounts ns) d =
    rows_is account_total (account_row_by (number ns)) (entry_key account) (sorts.AccountEntry ns) (λ e. refl) (account_key ns) (sorts.Accounts ns) (λ ds. refl) (as_array d)
fault_is (sorts.AccountEntry ns) d = account_entry_fault ns d
fault_is sorts.Account d = account_fault d
fault_is (sorts.Choices ns) d =
    rows_is choice_id_total (choice_row_by (number ns)) (entry_key choice_id) (sorts.ChoiceEntry ns) (λ e. refl) (choice_key ns) (sorts.Choices ns) (λ ds. refl) (as_array d)
fault_is (sorts.ChoiceEntry ns) d = choice_entry_fault ns d
fault_is (sorts.BoundValues ns) d =
    rows_is bytes_total (bound_row_by (number ns)) (entry_key text) (sorts.BoundEntry ns) (λ e. refl) (bound_key ns) (sorts.BoundValues ns) (λ ds. refl) (as_array d)
fault_is (sorts.BoundEntry ns) d = bound_entry_fault ns d
fault_is sorts.NumberOrText d = itself_fault (number_or_text d) d
fault_is (sorts.Amount ns) d = itself_fault (amount ns d) d
fault_is (sorts.Repeated first) d = refl
fault_is sorts.Amounts d = rows_is token_total amount_row (entry_key token) sorts.AmountEntry (λ e. refl) token_key sorts.Amounts (λ ds. refl) (as_array d)
fault_is sorts.AmountEntry d = amount_entry_fault d
fault_is (sorts.OfScenario part) d = refl
