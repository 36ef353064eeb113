-- As what the parts of a JSON value are read, by the tables of forms. An object is seen as the list of its keys.
use Rattle.std.specs.Prelude.{ℕ, ◌==◌, Bool, List, [], ◌∷◌, Option, Some, None, Result, Ok, Err, is_some, if◌then◌else◌}
use Rattle.names.specs.Equal.{same_text}
use Rattle.json_forms.specs.declared.form.Form.{Form}
use Rattle.json_forms.specs.declared.sort.Numbers.{Numbers}
use Rattle.json_forms.specs.declared.sort.Numbers.TheVariants as numbers
use Rattle.json_forms.specs.declared.sort.ScenarioSort.{ScenarioSort}
use Rattle.json_forms.specs.declared.sort.ScenarioSort.TheVariants as parts
use Rattle.json_forms.specs.declared.sort.Sort.{Sort}
use Rattle.json_forms.specs.declared.sort.Sort.TheVariants as sorts
use Rattle.json_forms.specs.Forms.{Field, key_word, fields_of, forms_of, more_of}
use Rattle.json_forms.specs.Lacking.{first_or, is_there, lacking}
use Rattle.unread_keys.specs.declared.unread.Why.{Why}
use Rattle.unread_keys.specs.declared.unread.Why.TheVariants.{NoKey, Again}

-- ---- members of an object

-- the first of these forms whose keys are all there
abbrev pub first_whole : List (List ℕ) → List Form → Option Form
first_whole keys [] = None
first_whole keys (form ∷ forms) = if is_some (lacking keys form) then first_whole keys forms else Some form

-- the form by which an object is read
abbrev pub form_of : Sort → List (List ℕ) → Option Form
form_of sort keys = first_whole keys (forms_of sort)

-- the one of these keys that is spelled so, with what its value is read as
abbrev pub field_among : List Field → List ℕ → Option Field
field_among [] key = None
field_among (f ∷ fs) key = if same_text (key_word f.0) key then Some f else field_among fs key

abbrev pub field_of_more : Option Field → List ℕ → Option Field
field_of_more None key = None
field_of_more (Some f) key = field_among (f ∷ []) key

-- a key of the form, or the one that may lack
abbrev pub field_behind : Option Form → List ℕ → Option Field
field_behind None key = None
field_behind (Some form) key = first_or (field_among (fields_of form) key) (field_of_more (more_of form) key)

abbrev pub if_last : Option Field → Bool → Result Field Why
if_last None again = Err NoKey
if_last (Some field) again = if again then Err Again else Ok field

-- a member is read if its key is one of the form's and no later member has it: as what, or why not
abbrev pub member_field : Option Form → List ℕ → List (List ℕ) → Result Field Why
member_field form key later = if_last (field_behind form key) (is_there later key)

-- ---- items of a list

abbrev pub number_sort : Numbers → Sort
number_sort numbers.Whole = sorts.Whole
number_sort numbers.OrTexts = sorts.NumberOrText

abbrev pub of_two : Sort → Sort → ℕ → Option Sort
of_two first second n = if n == 0 then Some first else Some second

abbrev pub scenario_items : ScenarioSort → Option Sort
scenario_items parts.Genesis = Some (sorts.OfScenario parts.Funds)
scenario_items parts.Contracts = Some (sorts.OfScenario parts.NamedContract)
scenario_items parts.Threads = Some (sorts.OfScenario parts.NamedThread)
scenario_items parts.Plans = Some (sorts.OfScenario parts.Plan)
scenario_items parts.Intents = Some (sorts.OfScenario parts.Intent)
scenario_items parts.Steps = Some (sorts.OfScenario parts.OneStep)
scenario_items other = None

-- as what the item at an index is read, where it may have keys
abbrev pub item_sort : Sort → ℕ → Option Sort
item_sort sorts.Cases n = Some sorts.Case
item_sort sorts.Bounds n = Some sorts.Bound
item_sort sorts.Inputs n = Some sorts.Input
item_sort (sorts.Accounts numbers) n = Some (sorts.AccountEntry numbers)
item_sort (sorts.AccountEntry numbers) n = of_two sorts.Account (sorts.Amount numbers) n
item_sort sorts.Account n = of_two sorts.Party sorts.Token n
item_sort (sorts.Choices numbers) n = Some (sorts.ChoiceEntry numbers)
item_sort (sorts.ChoiceEntry numbers) n = of_two sorts.ChoiceId (number_sort numbers) n
item_sort (sorts.BoundValues numbers) n = Some (sorts.BoundEntry numbers)
item_sort (sorts.BoundEntry numbers) n = of_two sorts.Text (number_sort numbers) n
item_sort sorts.Amounts n = Some sorts.AmountEntry
item_sort sorts.AmountEntry n = of_two sorts.Token (sorts.Amount numbers.Whole) n
item_sort (sorts.OfScenario part) n = scenario_items part
item_sort other n = None
