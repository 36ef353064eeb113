-- The parts of a scenario that are read of a value, in order, each beside what is there then.
use Rattle.std.specs.Prelude.{ℕ, ◌+◌, nat_lt, List, [], ◌∷◌, length, Bool, ◌&&◌, Option, Some, None, Ok, Err, codes, is_some, if◌then◌else◌}
use Rattle.std.specs.List.{find}
use Rattle.serde_json.specs.Data.{Data, Items, no_items, item}
use Rattle.serde_json.specs.Find.{get, as_array}
use Rattle.json_read_names.specs.Forms.{has_two, has_three}
use Rattle.json_read_names.specs.Parts.{Reading}
use Rattle.json_read_names.specs.declared.fault.JsonFault.{JsonFault}
use Rattle.json_read_names.specs.declared.fault.JsonFault.TheVariants.{NoForm}
use Rattle.json_read_scenarios.specs.ReadsPlan.{intent_form}
use Rattle.json_read_scenarios.specs.declared.intent_forms.IntentForm.{IntentForm}
use Rattle.json_read_scenarios.specs.declared.intent_forms.IntentForm.TheVariants as intents
use Rattle.json_forms.specs.declared.form.Form.{Form}
use Rattle.json_forms.specs.declared.form.Form.TheVariants as forms
use Rattle.json_forms.specs.declared.sort.NamedSort.TheVariants as named
use Rattle.json_forms.specs.declared.sort.ScenarioSort.{ScenarioSort}
use Rattle.json_forms.specs.declared.sort.ScenarioSort.TheVariants as parts
use Rattle.json_forms.specs.declared.sort.Sort.{Sort}
use Rattle.json_forms.specs.declared.sort.Sort.TheVariants as sorts
use Rattle.json_forms.specs.Forms.{Field, key_word, fields_of, more_of}
use Rattle.json_stops.specs.declared.stop.Step.{Step}
use Rattle.json_stops.specs.declared.stop.Step.TheVariants as steps
use Rattle.scenario_stops.specs.declared.form.Shape.{Shape}
use Rattle.scenario_stops.specs.declared.form.Shape.TheVariants.{Single, ListOf, FormOf}
use Rattle.scenario_stops.specs.There.{There, nothing, after}
use Rattle.scenario_stops.specs.Faults.{own_fault, fault_in}

-- ---- what a value has parts by

-- the only form of a sort, where its keys are there
unfoldable pub one_form : Bool → Form → Reading Shape
one_form is_there form = if is_there then Ok (FormOf form) else Err NoForm

abbrev pub intent_shape : IntentForm → Reading Shape
intent_shape intents.Step = Ok (FormOf forms.Step)
intent_shape intents.Steps = Ok (FormOf forms.Steps)
intent_shape intents.Claim = Ok (FormOf forms.Claim)
intent_shape intents.Round = Ok (FormOf forms.Round)
intent_shape intents.Advance = Ok (FormOf forms.Advance)
intent_shape intents.Nothing = Err NoForm

-- a name or a number has no parts
abbrev pub single : Option JsonFault → Reading Shape
single None = Ok Single
single (Some fault) = Err fault

abbrev pub shape_in : ScenarioSort → There → Data → Reading Shape
shape_in parts.Scenario t d =
    one_form (has_three (codes "tick") (codes "genesis") (codes "contracts") d && has_two (codes "threads") (codes "plans") d) forms.Scenario
shape_in parts.Genesis t d = Ok (ListOf (sorts.OfScenario parts.Funds))
shape_in parts.Funds t d = one_form (has_two (codes "address") (codes "amount") d) forms.Funds
shape_in parts.Contracts t d = Ok (ListOf (sorts.OfScenario parts.NamedContract))
shape_in parts.NamedContract t d = one_form (has_three (codes "name") (codes "currency") (codes "contract") d) forms.NamedContract
shape_in parts.Threads t d = Ok (ListOf (sorts.OfScenario parts.NamedThread))
shape_in parts.NamedThread t d =
    one_form (has_three (codes "name") (codes "contract") (codes "by") d && has_two (codes "accounts") (codes "minTime") d) forms.NamedThread
shape_in parts.Plans t d = Ok (ListOf (sorts.OfScenario parts.Plan))
shape_in parts.Plan t d =
    one_form (nat_lt (length t.plans) 63 && has_two (codes "name") (codes "keys") d && has_two (codes "change") (codes "intents") d) forms.Plan
shape_in parts.PlanKeys t d = Ok (ListOf sorts.Text)
shape_in parts.Intents t d = Ok (ListOf (sorts.OfScenario parts.Intent))
shape_in parts.Intent t d = intent_shape (intent_form d)
shape_in parts.Steps t d = Ok (ListOf (sorts.OfScenario parts.OneStep))
shape_in parts.OneStep t d = Ok (FormOf forms.OneStep)
shape_in other t d = single (own_fault other t d)

-- ---- parts

-- the step that leads to it, what it is read as, what is there then, and what stands there
pub record Part : Type 0 where
  pub step : Step
  pub sort : Sort
  pub there : There
  pub json : Data

-- the value behind a key, and what is read behind it
abbrev pub and_rest : There → Field → Option Data → (There → List Part) → List Part
and_rest t f None rest = []
and_rest t f (Some e) rest = record { step = steps.Key f.0; sort = f.1; there = t; json = e } ∷ rest (after f.1 t e)

-- the value behind a key that may lack
abbrev pub perhaps : There → Data → Option Field → List Part
perhaps t d None = []
perhaps t d (Some f) = and_rest t f (get (key_word f.0) d) (λ u. [])

-- the values behind keys, up to the first key that lacks, and then that behind a key that may lack
abbrev pub behind : There → Data → List Field → Option Field → List Part
behind t d [] more = perhaps t d more
behind t d (f ∷ fs) more = and_rest t f (get (key_word f.0) d) (λ u. behind u d fs more)

-- the items of a list, counted from a number on
abbrev pub items_from : There → Sort → ℕ → Items → List Part
items_from t inner n no_items = []
items_from t inner n (item d ds) = record { step = steps.Item n; sort = inner; there = t; json = d } ∷ items_from (after inner t d) inner (n + 1) ds

abbrev pub list_parts : There → Sort → Option Items → List Part
list_parts t inner None = []
list_parts t inner (Some ds) = items_from t inner 0 ds

abbrev pub parts_by : Reading Shape → There → Data → List Part
parts_by (Ok Single) t d = []
parts_by (Ok (ListOf inner)) t d = list_parts t inner (as_array d)
parts_by (Ok (FormOf form)) t d = behind t d (fields_of form) (more_of form)
parts_by (Err fault) t d = []

-- a scenario is read beside nothing
abbrev pub start : ScenarioSort → There → There
start parts.Scenario t = nothing
start part t = t

-- the parts of a scenario that are read of a value; where in one that a contract or a state has too reading stops, `StopsAt` says
abbrev pub parts_in : Sort → There → Data → List Part
parts_in (sorts.OfScenario part) t d = parts_by (shape_in part t d) (start part t) d
parts_in other t d = []

-- ---- what isn't read

-- the first of these that isn't read
abbrev pub first_unread : List Part → Option Part
first_unread ps = find (λ (p : Part). is_some (fault_in p.sort p.there p.json)) ps
