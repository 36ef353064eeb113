-- No reader needs this file: it serves the proofs of this crate.
-- The fault of a value, part by part; and the names that code keeps of what is there.
use Rattle.std.specs.Prelude.{◌≡◌, ℕ, ◌+◌, ◌<◌, nat_lt, Bool, true, false, ◌&&◌, List, [], ◌∷◌, length, drop, map, reverse, Option, Some, None, Ok, Err, is_some, codes, if◌then◌else◌}
use Rattle.std.specs.Borrow.{Bor}
use Rattle.std.specs.declared.vec.Vec.{Vec}
use Rattle.std.specs.declared.alloc.Global.{Global}
use Rattle.std.specs.BTreeMap.{get_by_text}
use Rattle.serde_json.specs.Data.{Data, Items, no_items, item}
use Rattle.serde_json.specs.Find.{get, as_array}
use Rattle.serde_json.specs.View.{items_of}
use Rattle.contract.specs.Names.Equal.{same_text}
use Rattle.contract.specs.Collections.Answers.{◌>>=◌}
use Rattle.json_read_names.specs.Forms.{has_two}
use Rattle.json_read_names.specs.Parts.{Reading, text}
use Rattle.json_read_names.specs.declared.fault.JsonFault.{JsonFault}
use Rattle.json_read_names.specs.declared.fault.JsonFault.TheVariants.{NoForm}
use Rattle.json_read_scenarios.specs.Names.{place_of}
use Rattle.json_read_scenarios.specs.ReadsPlan.{contract_name, thread_name, plan_name}
use Rattle.json_forms.specs.declared.form.Form.TheVariants as forms
use Rattle.json_forms.specs.declared.sort.NamedSort.{NamedSort}
use Rattle.json_forms.specs.declared.sort.NamedSort.TheVariants as named
use Rattle.json_forms.specs.declared.sort.ScenarioSort.{ScenarioSort}
use Rattle.json_forms.specs.declared.sort.ScenarioSort.TheVariants as parts
use Rattle.json_forms.specs.declared.sort.Sort.{Sort}
use Rattle.json_forms.specs.declared.sort.Sort.TheVariants as sorts
use Rattle.json_forms.specs.Forms.{Field, key_word, fields_of, more_of}
use Rattle.json_forms.specs.Lacking.{first_or}
use Rattle.json_stops.specs.declared.stop.Step.{Step}
use Rattle.json_stops.specs.declared.stop.Stop.{Stop}
use Rattle.json_stops.specs.Stops.{Place, place}
use Rattle.scenario_stops.specs.declared.form.Shape.{Shape}
use Rattle.scenario_stops.specs.declared.form.Shape.TheVariants.{Single, ListOf, FormOf}
use Rattle.scenario_stops.specs.declared.known.Names.{Names}
use Rattle.scenario_stops.specs.There.{There, nothing, after}
use Rattle.scenario_stops.specs.Faults.{own_fault, fault_in}
use Rattle.scenario_stops.specs.Parts.{one_form, shape_in, items_from, behind, first_unread, start}
use Rattle.scenario_stops.specs.Stops.{StopsBy}

-- ---- faults

-- of the value behind a key: that none is there is one
abbrev pub or_lacking : There → Field → Option Data → (There → Option JsonFault) → Option JsonFault
or_lacking t f None rest = Some NoForm
or_lacking t f (Some e) rest = first_or (fault_in f.1 t e) (rest (after f.1 t e))

abbrev pub or_none : There → Field → Option Data → Option JsonFault
or_none t f None = None
or_none t f (Some e) = fault_in f.1 t e

abbrev pub perhaps_fault : There → Data → Option Field → Option JsonFault
perhaps_fault t d None = None
perhaps_fault t d (Some f) = or_none t f (get (key_word f.0) d)

abbrev pub behind_fault : There → Data → List Field → Option Field → Option JsonFault
behind_fault t d [] more = perhaps_fault t d more
behind_fault t d (f ∷ fs) more = or_lacking t f (get (key_word f.0) d) (λ u. behind_fault u d fs more)

abbrev pub items_fault : There → Sort → Items → Option JsonFault
items_fault t inner no_items = None
items_fault t inner (item d ds) = first_or (fault_in inner t d) (items_fault (after inner t d) inner ds)

abbrev pub list_fault : There → Sort → Option Items → Option JsonFault
list_fault t inner None = Some NoForm
list_fault t inner (Some ds) = items_fault t inner ds

abbrev pub fault_by : Reading Shape → There → Data → Option JsonFault
fault_by (Ok Single) t d = None
fault_by (Ok (ListOf inner)) t d = list_fault t inner (as_array d)
fault_by (Ok (FormOf form)) t d = behind_fault t d (fields_of form) (more_of form)
fault_by (Err fault) t d = Some fault

-- ---- what is there behind items, and behind keys

abbrev pub after_items : There → Sort → Items → There
after_items t inner no_items = t
after_items t inner (item d ds) = after_items (after inner t d) inner ds

abbrev pub after_key : There → Field → Option Data → (There → There) → There
after_key t f None rest = t
after_key t f (Some e) rest = rest (after f.1 t e)

abbrev pub after_keys : There → Data → List Field → There
after_keys t d [] = t
after_keys t d (f ∷ fs) = after_key t f (get (key_word f.0) d) (λ u. after_keys u d fs)

-- ---- the names that code keeps

-- they are the names of what is there
pub record NamesAre (names : Names) (t : There) : Type 0 where
  pub contracts : (name : List ℕ) → is_some (get_by_text names.contracts name) ≡ is_some (place_of contract_name name t.contracts)
  pub threads : (name : List ℕ) → is_some (get_by_text names.threads name) ≡ is_some (place_of thread_name name t.threads)
  pub plans : (name : List ℕ) → is_some (get_by_text names.plans name) ≡ is_some (place_of plan_name name t.plans)
  pub count : names.plan_count ≡ length t.plans

-- what is there once the parts of a value were read, before the value itself adds to it; of a scenario nothing is said
abbrev pub Leaves : ScenarioSort → Names → There → Data → Type 0
Leaves parts.Scenario names t d = Unit {0}
Leaves parts.Contracts names t d = NamesAre names (after (sorts.OfScenario parts.Contracts) t d)
Leaves parts.Threads names t d = NamesAre names (after (sorts.OfScenario parts.Threads) t d)
Leaves parts.Plans names t d = NamesAre names (after (sorts.OfScenario parts.Plans) t d)
Leaves other names t d = NamesAre names t

-- one of a kind has the name
abbrev pub has_name : NamedSort → Names → List ℕ → Bool
has_name named.Contract names name = is_some (get_by_text names.contracts name)
has_name named.Thread names name = is_some (get_by_text names.threads name)
has_name named.Plan names name = is_some (get_by_text names.plans name)

-- a name is put among others
abbrev pub Puts : List ℕ → (List ℕ → Option Bool) → (List ℕ → Option Bool) → Type 0
Puts name old new = (other : List ℕ) → new other ≡ (if same_text name other then Some true else old other)

abbrev pub Added : NamedSort → Option (List ℕ) → Names → Names → Type 0
Added kind None old new = Unit {0}
Added named.Contract (Some name) old new =
    Puts name (get_by_text old.contracts) (get_by_text new.contracts) × (new.threads ≡ old.threads) × (new.plans ≡ old.plans) × (new.plan_count ≡ old.plan_count)
Added named.Thread (Some name) old new =
    Puts name (get_by_text old.threads) (get_by_text new.threads) × (new.contracts ≡ old.contracts) × (new.plans ≡ old.plans) × (new.plan_count ≡ old.plan_count)
Added named.Plan (Some name) old new =
    Puts name (get_by_text old.plans) (get_by_text new.plans) × (new.contracts ≡ old.contracts) × (new.threads ≡ old.threads)
    × (old.plan_count < 63 → new.plan_count ≡ old.plan_count + 1)

-- ---- shapes, by names

abbrev pub new_if : Bool → Reading Shape
new_if true = Err NoForm
new_if false = Ok Single

abbrev pub known_if : Bool → Reading Shape
known_if true = Ok Single
known_if false = Err NoForm

abbrev pub new_shape : Names → NamedSort → Data → Reading Shape
new_shape names kind d = text d >>= λ name. new_if (has_name kind names name)

abbrev pub name_shape : Names → NamedSort → Data → Reading Shape
name_shape names kind d = text d >>= λ name. known_if (has_name kind names name)

-- beside what has these names
abbrev pub shape_for : Names → ScenarioSort → Data → Reading Shape
shape_for names parts.Plan d =
    one_form (nat_lt names.plan_count 63 && has_two (codes "name") (codes "keys") d && has_two (codes "change") (codes "intents") d) forms.Plan
shape_for names (parts.NewName kind) d = new_shape names kind d
shape_for names (parts.NameOf kind) d = name_shape names kind d
shape_for names other d = shape_in other nothing d

-- ---- what code finds

-- what a scenario alone has
abbrev pub own_part : Sort → Option ScenarioSort
own_part (sorts.OfScenario part) = Some part
own_part other = None

-- the way through the scenario, kept from its end, and the place where it ends
abbrev pub Way : Type 0
Way = List Step × Place

abbrev pub along : {J : Type 0} → (J → Data) → Vec Step Global × Stop × Bor J → Way
along json found = (reverse found.0.items, place json (found.1, found.2))

abbrev pub StopsAlong : Sort → There → Data → Way → Type 0
StopsAlong s t d way = StopsBy way.0 s t d way.1

-- reading stops there, beside whatever has the names; or nowhere, and then these are the names of what is there behind it
abbrev pub IsStopFor : Names → Sort → Data → Names → Option Way → Type 0
IsStopFor old s d new None = (t : There) → NamesAre old t → (fault_in s t d ≡ None) × NamesAre new (after s t d)
IsStopFor old s d new (Some way) = (t : There) → NamesAre old t → StopsAlong s t d way

-- the same for the parts of a value, at the start of which these are the names
abbrev pub IsStopIn : Names → ScenarioSort → Data → Names → Option Way → Type 0
IsStopIn old part d new None = (t : There) → NamesAre old (start part t) → (own_fault part t d ≡ None) × Leaves part new t d
IsStopIn old part d new (Some way) = (t : There) → NamesAre old (start part t) → StopsAlong (sorts.OfScenario part) t d way

-- the values behind the keys before an index are read
pub record KeysAreRead (d : Data) (fs : List Field) (more : Option Field) (i : ℕ) (new : Names) (t : There) : Type 0 where
  pub there : There
  pub names : NamesAre new there
  pub unread : first_unread (behind t d fs more) ≡ first_unread (behind there d (drop i fs) more)
  pub fault : behind_fault t d fs more ≡ behind_fault there d (drop i fs) more
  pub ends : after_keys t d fs ≡ after_keys there d (drop i fs)

-- the items before an index are
pub record ItemsAreRead {V : Type 0} (json : V → Data) (inner : Sort) (vs : List V) (i : ℕ) (new : Names) (t : There) : Type 0 where
  pub there : There
  pub names : NamesAre new there
  pub unread : first_unread (items_from t inner 0 (items_of (map json vs))) ≡ first_unread (items_from there inner i (items_of (map json (drop i vs))))
  pub fault : items_fault t inner (items_of (map json vs)) ≡ items_fault there inner (items_of (map json (drop i vs)))
  pub ends : after_items t inner (items_of (map json vs)) ≡ after_items there inner (items_of (map json (drop i vs)))
