use Rattle.std.proofs.Common.{◌≡◌, true, take, map}
use Rattle.std.specs.List.{list_all}
use Rattle.json_write_outcomes.specs.Each.{Each}
use Rattle.json_write_contracts.proofs.ListedLaws.{front}
use Rattle.json_write_contracts.specs.Tokens.{Adds}
use Rattle.contract_json.specs.InputSymbols.{InputSymbols}
use Rattle.contract_json.specs.WrittenInput.{input_json, input_fits}
use Rattle.contract_json.proofs.inputs.put_inputs.Given as goal

-- the inputs so far fit, are written, and have symbols of bytes
abbrev pub invariant-loop-input : goal.invariant-loop-input
invariant-loop-input l =
    (list_all input_fits (take l.input-index l.input-items) ≡ true)
    × Adds l.initial.out l.out (front (map input_json (take l.input-index l.input-items)))
    × Each InputSymbols (take l.input-index l.input-items)
