-- What the writer of an input puts, behind what was written before: JSON, if it has all numbers in it (`PutsFitting`).
use Rattle.std.specs.Prelude.{Result}
use Rattle.json.specs.Written as json
use Rattle.contract.specs.declared.input.Input.{Input}
use Rattle.json_write_contracts.specs.Tokens.{PutsFitting}
use Rattle.json_write_contracts.specs.declared.fault.WriteFault.{WriteFault}
use Rattle.contract_json.specs.WrittenInput.{input_json, input_fits}

abbrev pub PutsInput : Result (Unit {0}) WriteFault → json.Written → json.Written → Input → Type 0
PutsInput result old new input = PutsFitting result old new (input_fits input) (input_json input)
