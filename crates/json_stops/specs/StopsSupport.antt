-- No reader needs this file: it serves the proofs of this crate.
-- The fault of a value, part by part.
use Rattle.std.specs.Prelude.{◌≡◌, ℕ, ◌+◌, drop, map, List, [], ◌∷◌, reverse, Option, Some, None, Ok, Err}
use Rattle.std.specs.Borrow.{Bor}
use Rattle.std.specs.declared.cmp.Ordering.{Ordering}
use Rattle.serde_json.specs.Data.{Data, Items, no_items, item}
use Rattle.serde_json.specs.Find.{get, as_array}
use Rattle.serde_json.specs.View.{items_of}
use Rattle.json_read_names.specs.Parts.{Reading, pair}
use Rattle.json_read_names.specs.declared.fault.JsonFault.{JsonFault}
use Rattle.json_read_names.specs.declared.fault.JsonFault.TheVariants.{NoForm}
use Rattle.json_forms.specs.declared.sort.Sort.{Sort}
use Rattle.json_forms.specs.Forms.{Field, key_word}
use Rattle.json_forms.specs.Lacking.{first_or}
use Rattle.json_stops.specs.declared.stop.Step.{Step}
use Rattle.json_stops.specs.declared.stop.Stop.{Stop}
use Rattle.json_stops.specs.declared.fields.Shape.{Shape}
use Rattle.json_stops.specs.declared.fields.Shape.TheVariants.{Itself, ListOf, PairOf}
use Rattle.json_stops.specs.FormsRead.{fields_read}
use Rattle.json_stops.specs.Repeats.{Places, no_places, Repeat, repeat_from, repeat_in, earlier}
use Rattle.json_stops.specs.Stops.{Place, fault_as, entry_sort, items_from, first_unread}

-- the fault of the value behind a key: that none is there is one
abbrev pub lacking_or : Sort → Option Data → Option JsonFault
lacking_or sort None = Some NoForm
lacking_or sort (Some d) = fault_as sort d

abbrev pub behind_fault : Data → List Field → Option JsonFault
behind_fault d [] = None
behind_fault d (f ∷ fs) = first_or (lacking_or f.1 (get (key_word f.0) d)) (behind_fault d fs)

abbrev pub fields_fault : Data → Reading (List Field) → Option JsonFault
fields_fault d (Ok fs) = behind_fault d fs
fields_fault d (Err f) = Some f

abbrev pub items_fault : Option Repeat → Sort → ℕ → Items → Option JsonFault
items_fault repeat sort n no_items = None
items_fault repeat sort n (item d ds) = first_or (fault_as (entry_sort (earlier repeat n) sort d) d) (items_fault repeat sort (n + 1) ds)

abbrev pub list_fault : Sort → Sort → Option Items → Option JsonFault
list_fault sort inner None = Some NoForm
list_fault sort inner (Some ds) = items_fault (repeat_in sort ds) inner 0 ds

abbrev pub pair_fault : Sort → Sort → Reading (Data × Data) → Option JsonFault
pair_fault first second (Ok p) = first_or (fault_as first p.0) (fault_as second p.1)
pair_fault first second (Err f) = Some f

-- the fault of a value as one of a sort, by those of its parts
abbrev pub fault_by : Shape → Sort → Data → Option JsonFault
fault_by Itself sort d = fields_fault d (fields_read sort d)
fault_by (ListOf inner) sort d = list_fault sort inner (as_array d)
fault_by (PairOf first second) sort d = pair_fault first second (pair d)

-- no entry before an index repeats a key, and these are the places of their keys
abbrev pub AreNew : {V K : Type 0} → (V → Data) → (K → K → Ordering) → (Data → Reading K) → List V → Places K → ℕ → Type 0
AreNew json cmp key vs places n = repeat_from cmp key no_places 0 (items_of (map json vs)) ≡ repeat_from cmp key places n (items_of (map json (drop n vs)))

-- the items of a list before an index are read
abbrev pub AreRead : {V : Type 0} → (V → Data) → Sort → Option Repeat → List V → ℕ → Type 0
AreRead json sort repeat vs n =
    let left = items_of (map json (drop n vs)) in
    (first_unread (items_from repeat sort 0 (items_of (map json vs))) ≡ first_unread (items_from repeat sort n left))
    × (items_fault repeat sort 0 (items_of (map json vs)) ≡ items_fault repeat sort n left)

-- the place of a stop, whose path is kept from its end
abbrev pub place_back : {J : Type 0} → (J → Data) → Stop × Bor J → Place
place_back json found = record { path = reverse found.0.path.items; sort = found.0.sort; fault = found.0.fault; json = json found.1.now }

-- reading stops at a value itself
abbrev pub at_itself : Sort → Data → JsonFault → Place
at_itself sort d fault = record { path = []; sort = sort; fault = fault; json = d }

-- the place, seen from one step further up
abbrev pub under : Step → Place → Place
under step at = record { path = step ∷ at.path; sort = at.sort; fault = at.fault; json = at.json }
