-- What explains why a contract has no table: lines, which stand behind the line of the refusal, indented; and members of a JSON object for tools.
use Rattle.std.specs.Prelude.{ℕ, List, [], ◌∷◌, ◌++◌, codes, decimal}
use Rattle.contract.specs.Tree.{ContractTree}
use Rattle.analysis_spec.specs.declared.path.PathStep.{PathStep}
use Rattle.places.specs.Places.{keys_of}
use Rattle.json_members.specs.Members.{first_member, count_json}
use Rattle.places.specs.Texts.{place_text, place_json}
use Rattle.text_spots.specs.Shown.{path_shown}

-- the place is in the spelling of an analysis, without its middle where it is long
abbrev pub deep_line : ContractTree → List PathStep → List ℕ
deep_line c place = codes "  the contract is more than 999 parts deep at " ++ (path_shown (place_text (keys_of place c)) ++ 10 ∷ [])

abbrev pub continuations_line : ℕ → List ℕ
continuations_line n = codes "  the contract has " ++ (decimal n ++ codes " continuations; a table has at most 65535\n")

abbrev pub others_line : ℕ → List ℕ
others_line n = codes "  the contract has " ++ (decimal n ++ codes " values, observations and cases; a table has at most 1000000\n")

-- ---- members for tools

-- the whole place, in the spelling of an analysis
abbrev pub deep_member : ContractTree → List PathStep → List ℕ
deep_member c place = first_member (codes "place") (place_json (keys_of place c))

-- how many nodes there are of the sort of which there are too many
abbrev pub nodes_member : ℕ → List ℕ
nodes_member n = first_member (codes "nodes") (count_json n)
