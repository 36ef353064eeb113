-- No reader needs this file: it serves the proofs of this crate and those above it.
-- How the rows of a map are read in one pass, and their keys looked at after it; and how their numbers are read.
use Rattle.std.specs.Prelude.{ℤ, List, [], ◌∷◌, ◌++◌, Option, Some, None, Ok, Err}
use Rattle.std.specs.FinMap.{FinMap}
use Rattle.serde_json.specs.Data.{Data, Items, no_items, item}
use Rattle.serde_json.specs.View.{items_of}
use Rattle.contract.specs.Names.Orders.{account_cmp}
use Rattle.json_read_names.specs.Parts.{Reading, whole_number}
use Rattle.json_read_names.specs.declared.fault.JsonFault.{JsonFault}
use Rattle.json_read_inputs.specs.ReadsNumber.{number_or_text}
use Rattle.json_read_inputs.specs.ReadsState.{rows, account_row_by}
use Rattle.json_read_inputs.specs.declared.numbers.Numbers.{Numbers}
use Rattle.json_read_inputs.specs.declared.numbers.Numbers.TheVariants as numbers

-- the reading of a number
abbrev pub number_by : Numbers → Data → Reading ℤ
number_by numbers.Whole = whole_number
number_by numbers.OrTexts = number_or_text

-- what accounts hold, by the reading of a number
abbrev pub accounts_by : Numbers → Data → Reading (FinMap account_cmp ℤ)
accounts_by numbers d = rows account_cmp (account_row_by (number_by numbers)) d

-- with a row behind those before, or at a fault
abbrev pub and_then : {E : Type 0} → List E → Reading E → (List E → List E × Option JsonFault) → List E × Option JsonFault
and_then before (Ok e) go_on = go_on (before ++ e ∷ [])
and_then before (Err fault) go_on = (before, Some fault)

-- the rows up to the first that stands for nothing, behind those before, and its fault
abbrev pub until_fault : {E : Type 0} → (Data → Reading E) → List E → Items → List E × Option JsonFault
until_fault row before no_items = (before, None)
until_fault row before (item d ds) = and_then before (row d) (λ now. until_fault row now ds)

abbrev pub rows_until_fault : {E : Type 0} → (Data → Reading E) → List Data → List E × Option JsonFault
rows_until_fault row ds = until_fault row [] (items_of ds)
