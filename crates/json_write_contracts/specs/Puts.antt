-- What the writers of values, actions and contracts put: JSON behind what was written before, if JSON has all the numbers
-- in it; and a fault other than want of memory if it lacks one (`PutsFitting`).
use Rattle.std.specs.Prelude.{Result}
use Rattle.json.specs.Written as json
use Rattle.contract.specs.Tree.{ValueTree, ObservationTree, ActionTree, ContractTree}
use Rattle.json_write_contracts.specs.Tokens.{PutsFitting}
use Rattle.json_write_contracts.specs.WrittenValues.{value_json, observation_json, value_fits, observation_fits}
use Rattle.json_write_contracts.specs.WrittenContract.{action_json, contract_json, case_json, action_fits, contract_fits, case_fits}
use Rattle.json_write_contracts.specs.declared.fault.WriteFault.{WriteFault}

abbrev pub PutsValue : Result (Unit {0}) WriteFault → json.Written → json.Written → ValueTree → Type 0
PutsValue result old new v = PutsFitting result old new (value_fits v) (value_json v)

abbrev pub PutsObservation : Result (Unit {0}) WriteFault → json.Written → json.Written → ObservationTree → Type 0
PutsObservation result old new o = PutsFitting result old new (observation_fits o) (observation_json o)

abbrev pub PutsAction : Result (Unit {0}) WriteFault → json.Written → json.Written → ActionTree → Type 0
PutsAction result old new a = PutsFitting result old new (action_fits a) (action_json a)

abbrev pub PutsContract : Result (Unit {0}) WriteFault → json.Written → json.Written → ContractTree → Type 0
PutsContract result old new c = PutsFitting result old new (contract_fits c) (contract_json c)

abbrev pub PutsCase : Result (Unit {0}) WriteFault → json.Written → json.Written → ActionTree × ContractTree → Type 0
PutsCase result old new k = PutsFitting result old new (case_fits k) (case_json k)
