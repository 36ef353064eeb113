-- No reader needs this file: it serves the helpers of this crate.
-- What they put: the cases of a When; members that are values, observations or contracts; objects of just one or two of them.
-- And the trees of an If and of a Cond.
use Rattle.std.specs.Prelude.{Result, List, ℕ, ◌&&◌}
use Rattle.json.specs.Written as json
use Rattle.serde_json.specs.Data.{array}
use Rattle.contract.specs.declared.value.Value.{Value}
use Rattle.contract.specs.declared.value.Observation.{Observation}
use Rattle.contract.specs.declared.tree.Contract.{Contract}
use Rattle.contract.specs.Tree.{ValueTree, cond_value, value_tree, ObservationTree, observation_tree, ContractTree, if_obs, contract_tree, CaseTrees}
use Rattle.json_write_contracts.specs.Members.{member_tokens, AddsFitting}
use Rattle.json_write_contracts.specs.Tokens.{PutsFitting}
use Rattle.json_write_contracts.specs.WrittenNames.{one, two}
use Rattle.json_write_contracts.specs.WrittenValues.{value_json, observation_json, value_fits, observation_fits}
use Rattle.json_write_contracts.specs.WrittenContract.{contract_json, cases_json, contract_fits, cases_fit}
use Rattle.json_write_contracts.specs.declared.fault.WriteFault.{WriteFault}

abbrev pub if_tree : Observation → Contract → Contract → ContractTree
if_tree o c d = if_obs (observation_tree o) (contract_tree c) (contract_tree d)

abbrev pub cond_tree : Observation → Value → Value → ValueTree
cond_tree o v w = cond_value (observation_tree o) (value_tree v) (value_tree w)

-- the list of the cases
abbrev pub PutsCases : Result (Unit {0}) WriteFault → json.Written → json.Written → CaseTrees → Type 0
PutsCases result old new ks = PutsFitting result old new (cases_fit ks) (array (cases_json ks))

-- a member under a key
abbrev pub AddsValue : Result (Unit {0}) WriteFault → json.Written → json.Written → List ℕ → ValueTree → Type 0
AddsValue result old new key v = AddsFitting result old new (value_fits v) (member_tokens key (value_json v))

abbrev pub AddsObservation : Result (Unit {0}) WriteFault → json.Written → json.Written → List ℕ → ObservationTree → Type 0
AddsObservation result old new key o = AddsFitting result old new (observation_fits o) (member_tokens key (observation_json o))

abbrev pub AddsContract : Result (Unit {0}) WriteFault → json.Written → json.Written → List ℕ → ContractTree → Type 0
AddsContract result old new key c = AddsFitting result old new (contract_fits c) (member_tokens key (contract_json c))

-- an object of one member
abbrev pub PutsOneValue : Result (Unit {0}) WriteFault → json.Written → json.Written → List ℕ → ValueTree → Type 0
PutsOneValue result old new key v = PutsFitting result old new (value_fits v) (one key (value_json v))

abbrev pub PutsOneObservation : Result (Unit {0}) WriteFault → json.Written → json.Written → List ℕ → ObservationTree → Type 0
PutsOneObservation result old new key o = PutsFitting result old new (observation_fits o) (one key (observation_json o))

-- an object of two members
abbrev pub PutsTwoValues : Result (Unit {0}) WriteFault → json.Written → json.Written → List ℕ → ValueTree → List ℕ → ValueTree → Type 0
PutsTwoValues result old new a v b w = PutsFitting result old new (value_fits v && value_fits w) (two a (value_json v) b (value_json w))

abbrev pub PutsTwoObservations : Result (Unit {0}) WriteFault → json.Written → json.Written → List ℕ → ObservationTree → List ℕ → ObservationTree → Type 0
PutsTwoObservations result old new a o b p = PutsFitting result old new (observation_fits o && observation_fits p) (two a (observation_json o) b (observation_json p))
