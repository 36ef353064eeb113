-- Where the reading of a JSON value stops, and why.
use Rattle.std.specs.Prelude.{◌≡◌, ℕ, ◌+◌, List, [], ◌∷◌, Option, Some, None, Ok, Err, is_some, if◌then◌else◌}
use Rattle.std.specs.List.{find}
use Rattle.serde_json.specs.Data.{Data, Items, no_items, item}
use Rattle.serde_json.specs.Find.{get, as_array}
use Rattle.contract.specs.Names.Orders.{bytes_cmp, account_cmp, choice_id_cmp, token_cmp}
use Rattle.json_read_names.specs.Parts.{Reading, text, bytes, whole_number, time, list, pair}
use Rattle.json_read_names.specs.ReadsNames.{party, token, choice_id, payee, bound}
use Rattle.json_read_names.specs.declared.fault.JsonFault.{JsonFault}
use Rattle.json_read_names.specs.declared.fault.JsonFault.TheVariants.{BadState, NoForm}
use Rattle.json_read_values.specs.ReadsValue.{value, observation}
use Rattle.json_read_values.specs.ReadsAction.{action}
use Rattle.json_read_contracts.specs.ReadsContract.{contract, case}
use Rattle.json_read_inputs.specs.ReadsInput.{transaction, interval, input}
use Rattle.json_read_inputs.specs.ReadsNumber.{number_or_text}
use Rattle.json_read_inputs.specs.ReadsState.{account, account_row_by, choice_row_by, bound_row_by, amount_row, rows, state_by}
use Rattle.json_forms.specs.declared.sort.Sort.{Sort}
use Rattle.json_forms.specs.declared.sort.Sort.TheVariants as sorts
use Rattle.json_forms.specs.Forms.{Field, key_word}
use Rattle.std.specs.Borrow.{Bor}
use Rattle.json_stops.specs.declared.stop.Step.{Step}
use Rattle.json_stops.specs.declared.stop.Stop.{Stop}
use Rattle.json_stops.specs.declared.stop.Step.TheVariants as steps
use Rattle.json_stops.specs.declared.fields.Shape.{Shape}
use Rattle.json_stops.specs.declared.fields.Shape.TheVariants.{Itself, ListOf, PairOf}
use Rattle.json_stops.specs.FormsRead.{shape_of, fields_read, number, amount}
use Rattle.json_stops.specs.Repeats.{Repeat, repeat_in, earlier}

-- ---- faults

-- why there is no reading
abbrev pub fault_of : {X : Type 0} → Reading X → Option JsonFault
fault_of (Ok x) = None
fault_of (Err f) = Some f

-- why a value isn't read as one of a sort; what only a scenario has is read by none of these
abbrev pub fault_as : Sort → Data → Option JsonFault
fault_as sorts.Contract d = fault_of (contract d)
fault_as sorts.Cases d = fault_of (list case d)
fault_as sorts.Case d = fault_of (case d)
fault_as sorts.Action d = fault_of (action d)
fault_as sorts.Value d = fault_of (value d)
fault_as sorts.Observation d = fault_of (observation d)
fault_as sorts.Bounds d = fault_of (list bound d)
fault_as sorts.Bound d = fault_of (bound d)
fault_as sorts.ChoiceId d = fault_of (choice_id d)
fault_as sorts.Token d = fault_of (token d)
fault_as sorts.Party d = fault_of (party d)
fault_as sorts.Payee d = fault_of (payee d)
fault_as sorts.Text d = fault_of (text d)
fault_as sorts.Hex d = fault_of (bytes d)
fault_as sorts.Whole d = fault_of (whole_number d)
fault_as sorts.Time d = fault_of (time d)
fault_as sorts.Transaction d = fault_of (transaction d)
fault_as sorts.Interval d = fault_of (interval d)
fault_as sorts.Inputs d = fault_of (list input d)
fault_as sorts.Input d = fault_of (input d)
fault_as (sorts.State numbers) d = fault_of (state_by (number numbers) d)
fault_as (sorts.Accounts numbers) d = fault_of (rows account_cmp (account_row_by (number numbers)) d)
fault_as (sorts.AccountEntry numbers) d = fault_of (account_row_by (number numbers) d)
fault_as sorts.Account d = fault_of (account d)
fault_as (sorts.Choices numbers) d = fault_of (rows choice_id_cmp (choice_row_by (number numbers)) d)
fault_as (sorts.ChoiceEntry numbers) d = fault_of (choice_row_by (number numbers) d)
fault_as (sorts.BoundValues numbers) d = fault_of (rows bytes_cmp (bound_row_by (number numbers)) d)
fault_as (sorts.BoundEntry numbers) d = fault_of (bound_row_by (number numbers) d)
fault_as sorts.NumberOrText d = fault_of (number_or_text d)
fault_as (sorts.Amount numbers) d = fault_of (amount numbers d)
fault_as (sorts.Repeated first) d = Some BadState
fault_as sorts.Amounts d = fault_of (rows token_cmp amount_row d)
fault_as sorts.AmountEntry d = fault_of (amount_row d)
fault_as (sorts.OfScenario part) d = Some NoForm

-- ---- parts

-- a part of a value: the step that leads to it, and what it is read as
pub record Part : Type 0 where
  pub step : Step
  pub sort : Sort
  pub json : Data

-- the values behind keys, up to the first key that lacks
abbrev pub and_rest : Field → Option Data → List Part → List Part
and_rest f None rest = []
and_rest f (Some d) rest = record { step = steps.Key f.0; sort = f.1; json = d } ∷ rest

abbrev pub behind : Data → List Field → List Part
behind d [] = []
behind d (f ∷ fs) = and_rest f (get (key_word f.0) d) (behind d fs)

-- what an entry is read as: if it reads well but an earlier one has its key, as one that is given again
abbrev pub entry_sort : Option ℕ → Sort → Data → Sort
entry_sort None sort d = sort
entry_sort (Some first) sort d = if is_some (fault_as sort d) then sort else sorts.Repeated first

-- the items of a list, counted from a number on
abbrev pub items_from : Option Repeat → Sort → ℕ → Items → List Part
items_from repeat sort n no_items = []
items_from repeat sort n (item d ds) =
    record { step = steps.Item n; sort = entry_sort (earlier repeat n) sort d; json = d } ∷ items_from repeat sort (n + 1) ds

abbrev pub fields_parts : Data → Reading (List Field) → List Part
fields_parts d (Ok fs) = behind d fs
fields_parts d (Err f) = []

abbrev pub list_parts : Sort → Sort → Option Items → List Part
list_parts sort inner (Some ds) = items_from (repeat_in sort ds) inner 0 ds
list_parts sort inner None = []

abbrev pub pair_parts : Sort → Sort → Reading (Data × Data) → List Part
pair_parts first second (Ok p) =
    record { step = steps.Item 0; sort = first; json = p.0 } ∷ record { step = steps.Item 1; sort = second; json = p.1 } ∷ []
pair_parts first second (Err f) = []

abbrev pub parts_by : Shape → Sort → Data → List Part
parts_by Itself sort d = fields_parts d (fields_read sort d)
parts_by (ListOf inner) sort d = list_parts sort inner (as_array d)
parts_by (PairOf first second) sort d = pair_parts first second (pair d)

-- the parts that are read of a value of a sort, in order
abbrev pub parts : Sort → Data → List Part
parts sort d = parts_by (shape_of sort) sort d

-- ---- where reading stops

-- the first of these that isn't read
abbrev pub first_unread : List Part → Option Part
first_unread ps = find (λ (p : Part). is_some (fault_as p.sort p.json)) ps

-- a path goes down from a value, from each to the first of its parts that isn't read
abbrev pub Leads : List Step → Sort → Data → Sort → Data → Type 0
Leads [] s d t e = (s ≡ t) × (d ≡ e)
Leads (step ∷ path) s d t e = (p : Part) × (first_unread (parts s d) ≡ Some p) × (p.step ≡ step) × Leads path p.sort p.json t e

-- a place at which reading stops: the path to it, what is read there, with which fault, and what stands there
pub record Place : Type 0 where
  pub path : List Step
  pub sort : Sort
  pub fault : JsonFault
  pub json : Data

-- what code tells of a place
abbrev pub place : {J : Type 0} → (J → Data) → Stop × Bor J → Place
place json found = record { path = found.0.path.items; sort = found.0.sort; fault = found.0.fault; json = json found.1.now }

-- the path goes down to it, each of its own parts is read, and its fault is that of the whole
pub record StopsAt (s : Sort) (d : Data) (at : Place) : Type 0 where
  pub leads : Leads at.path s d at.sort at.json
  pub inside : first_unread (parts at.sort at.json) ≡ None
  pub here : fault_as at.sort at.json ≡ Some at.fault
  pub whole : fault_as s d ≡ Some at.fault

-- reading stops at a place, or nowhere: then the whole is read
abbrev pub IsStop : Sort → Data → Option Place → Type 0
IsStop s d None = fault_as s d ≡ None
IsStop s d (Some at) = StopsAt s d at
