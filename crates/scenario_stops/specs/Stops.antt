-- Where the reading of a scenario stops, and why.
use Rattle.std.specs.Prelude.{◌≡◌, ℕ, List, [], ◌∷◌, ◌++◌, Option, Some, None, option_and_then, codes}
use Rattle.serde_json.specs.Data.{Data, Items, no_items, item}
use Rattle.serde_json.specs.Find.{get, as_array, as_str}
use Rattle.json_read_scenarios.specs.ReadsScenario.{scenario}
use Rattle.json_forms.specs.declared.sort.NamedSort.{NamedSort}
use Rattle.json_forms.specs.declared.sort.NamedSort.TheVariants as named
use Rattle.json_forms.specs.declared.sort.ScenarioSort.TheVariants as parts
use Rattle.json_forms.specs.declared.sort.Sort.{Sort}
use Rattle.json_forms.specs.declared.sort.Sort.TheVariants as sorts
use Rattle.json_stops.specs.declared.stop.Step.{Step}
use Rattle.json_stops.specs.Stops.{Place, StopsAt, fault_of}
use Rattle.scenario_stops.specs.There.{There, nothing}
use Rattle.scenario_stops.specs.Faults.{fault_in}
use Rattle.scenario_stops.specs.Parts.{Part, parts_in, first_unread}

-- reading stops in a value: at its own form, where each of its parts is read; or, in one that a contract or a state has too, at this place in it
abbrev pub Ends : Sort → There → Data → Place → Type 0
Ends (sorts.OfScenario part) t d at =
    (at.path ≡ []) × (at.sort ≡ sorts.OfScenario part) × (at.json ≡ d) × (first_unread (parts_in (sorts.OfScenario part) t d) ≡ None)
Ends other t d at = StopsAt other d at

-- a path goes down through a scenario, from each value to the first of its parts that isn't read, and in the last reading stops
abbrev pub Leads : List Step → Sort → There → Data → Place → Type 0
Leads [] s t d at = Ends s t d at
Leads (step ∷ path) s t d at = (p : Part) × (first_unread (parts_in s t d) ≡ Some p) × (p.step ≡ step) × Leads path p.sort p.there p.json at

-- .. with the fault that the value itself has
abbrev pub StopsBy : List Step → Sort → There → Data → Place → Type 0
StopsBy path s t d at = Leads path s t d at × (fault_in s t d ≡ Some at.fault)

-- a place, seen from further up
abbrev pub inside : List Step → Place → Place
inside path at = record { path = path ++ at.path; sort = at.sort; fault = at.fault; json = at.json }

-- the names of the items of a list of a scenario
abbrev pub text_or_none : Option (List ℕ) → List (List ℕ) → List (List ℕ)
text_or_none None names = names
text_or_none (Some name) names = name ∷ names

abbrev pub name_in : Data → Option (List ℕ)
name_in d = option_and_then as_str (get (codes "name") d)

abbrev pub names_of : Items → List (List ℕ)
names_of no_items = []
names_of (item d ds) = text_or_none (name_in d) (names_of ds)

abbrev pub list_key : NamedSort → List ℕ
list_key named.Contract = codes "contracts"
list_key named.Thread = codes "threads"
list_key named.Plan = codes "plans"

abbrev pub names_or_none : Option Items → List (List ℕ)
names_or_none None = []
names_or_none (Some ds) = names_of ds

abbrev pub names_in : NamedSort → Data → List (List ℕ)
names_in kind d = names_or_none (option_and_then as_array (get (list_key kind) d))

-- the reading of a scenario stops at a place
pub record StopsIn (d : Data) (at : Place) : Type 0 where
  pub outer : List Step
  pub last : Place
  pub stops : StopsBy outer (sorts.OfScenario parts.Scenario) nothing d last
  pub is : at ≡ inside outer last

-- or nowhere: then the whole is read
abbrev pub IsScenarioStop : Data → Option Place → Type 0
IsScenarioStop d None = fault_of (scenario d) ≡ None
IsScenarioStop d (Some at) = StopsIn d at
