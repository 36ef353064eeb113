-- Worked rows, computed on the definitions: which of these bound values repeats the name of an earlier one.
use Rattle.std.specs.Prelude.{◌≡◌, ℕ, List, Option, Some, None, codes}
use Rattle.serde_json.specs.Data.{Data, Items, no_items, item, null, number, string, array, unsigned}
use Rattle.json_forms.specs.declared.sort.Numbers.TheVariants as numbers
use Rattle.json_forms.specs.declared.sort.Sort.TheVariants as sorts
use Rattle.json_stops.specs.declared.stop.Step.TheVariants as steps
use Rattle.json_stops.specs.Repeats.{Repeat, repeat_in}
use Rattle.json_stops.specs.Stops.{Part, parts, first_unread}

-- [name, 1]
abbrev pub entry : List ℕ → Data
entry name = array (item (string name) (item (number (unsigned 1)) no_items))

abbrev pub x : Data
x = entry (codes "x")

abbrev pub y : Data
y = entry (codes "y")

abbrev pub Repeats : Items → Option Repeat → Type 0
Repeats ds repeat = repeat_in (sorts.BoundValues numbers.Whole) ds ≡ repeat

-- the first that repeats one; an entry without a name ends the search
abbrev pub RepeatsAreFound : Type 0
RepeatsAreFound =
    Repeats (item x (item y no_items)) None
    × Repeats (item x (item y (item x (item y no_items)))) (Some (2, 0))
    × Repeats (item x (item y (item y (item x no_items)))) (Some (2, 1))
    × Repeats (item x (item null (item x no_items))) None

-- reading stops there
abbrev pub AtTheRepeat : Part
AtTheRepeat = record { step = steps.Item 2; sort = sorts.Repeated 0; json = x }

abbrev pub ReadingStopsAtRepeats : Type 0
ReadingStopsAtRepeats = first_unread (parts (sorts.BoundValues numbers.Whole) (array (item x (item y (item x (item null no_items)))))) ≡ Some AtTheRepeat
