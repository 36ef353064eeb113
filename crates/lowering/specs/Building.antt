-- No reader needs this file: it serves the steps in which a table is made.
use Rattle.std.specs.Prelude.{◌≡◌, ℕ, ◌+◌, ◌<◌, ◌≤◌, length}
use Rattle.contract.specs.declared.tree.Case.{Case}
use Rattle.contract.specs.Tree.{ValueTree, ObservationTree, ActionTree, deposit, choice, notify, action_tree, contract_tree, CaseTrees}
use Rattle.table.specs.Flat.{Flat, trees}
use Rattle.table.specs.Heights.{greatest, case_heights}
use Rattle.table_builder.specs.Putting.{others_in}
use Rattle.lowering.specs.Sizes.{action_size, others}
use Rattle.lowering.specs.Code.{code_value, code_observation, code_case, code_contract}

-- the height of the highest case, 0 where there is none
abbrev pub cases_height : CaseTrees → ℕ
cases_height ks = greatest (case_heights ks)

-- this number stands for what an action waits for
abbrev pub ActionStands : Flat → ActionTree → ℕ → Type 0
ActionStands f (deposit a p t v) n = (n < length f.values) × ((trees f).value n ≡ v)
ActionStands f (choice id bounds) n = Unit {0}
ActionStands f (notify o) n = (n < length f.observations) × ((trees f).observation n ≡ o)

-- there is room for so many more values, observations and cases
abbrev pub HasRoom : Flat → ℕ → Type 0
HasRoom f n = others_in f + n ≤ 1000000

-- the table with the nodes of two values, or of two observations, and the number of the second
abbrev pub code_values : ValueTree → ValueTree → Flat → Flat × ℕ
code_values v w f = code_value w (code_value v f).0

abbrev pub code_observations : ObservationTree → ObservationTree → Flat → Flat × ℕ
code_observations o q f = code_observation q (code_observation o f).0

-- the nodes of a case that are no continuations, and the table with a case
abbrev pub others_of_case : Case → ℕ
others_of_case k = 1 + action_size (action_tree k.action) + others (contract_tree k.then)

abbrev pub code_of_case : Case → Flat → Flat × ℕ
code_of_case k f = code_case (action_tree k.action) (code_contract (contract_tree k.then)) f
