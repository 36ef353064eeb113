use Rattle.std.proofs.Common.{◌≡◌, true, take}
use Rattle.std.specs.List.{list_all}
use Rattle.marlowe_run.specs.ContractJson.WrittenInput.{input_fits}
use Rattle.marlowe_analyse.proofs.runs.has_numbers.Given as goal

abbrev pub invariant-loop-input : goal.invariant-loop-input
invariant-loop-input l = list_all input_fits (take l.input-index l.inputs) ≡ true
