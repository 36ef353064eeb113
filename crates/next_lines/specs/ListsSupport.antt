-- The lists of the JSON, as code names them. It serves proofs alone.
use Rattle.std.specs.Prelude.{List}
use Rattle.serde_json.specs.Data.{Data}
use Rattle.next_lines.specs.declared.json_inputs.CaseList.{CaseList}
use Rattle.next_lines.specs.declared.json_inputs.CaseList.TheVariants as lists
use Rattle.next_lines.specs.Applicable.{Applicable}
use Rattle.next_lines.specs.Json.{in_deposits, in_choices, in_leaves}

-- what a list has of a case
abbrev pub in_list : CaseList → Applicable → List Data
in_list lists.Choices = in_choices
in_list lists.Deposits = in_deposits
in_list lists.Leaves = in_leaves
