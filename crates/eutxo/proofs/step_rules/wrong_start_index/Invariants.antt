use Rattle.std.proofs.Common.{◌≡◌, ℕ, drop, take}
use Rattle.eutxo_types.specs.declared.output.Output.{Output}
use Rattle.eutxo.specs.Faults.{first_index}
use Rattle.eutxo.specs.Found.{script_at}
use Rattle.eutxo.specs.Rules.{starts_wrong}
use Rattle.eutxo_types.specs.Parts.{contract_count, contract_at}
use Rattle.eutxo.proofs.step_rules.wrong_start_index.Given as goal

abbrev pub invariant-loop-i : goal.invariant-loop-i
invariant-loop-i g l =
    let test = λ (i : ℕ) (o : Output). starts_wrong g.V.Validator.judges (script_at l.scripts) o.amount (contract_at l.tx i) in
    record {
      rest : first_index test 0 l.tx.outputs ≡ first_index test l.i (drop l.i l.tx.outputs);
      count : l.count ≡ contract_count (take l.i l.tx.outputs);
    }
