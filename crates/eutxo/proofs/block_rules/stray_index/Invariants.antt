use Rattle.std.proofs.Common.{◌≡◌, ℕ, not, ◌&&◌, drop}
use Rattle.std.specs.List.{list_any}
use Rattle.eutxo_types.specs.declared.output.Output.{Output}
use Rattle.eutxo_types.specs.Parts.{is_contract}
use Rattle.eutxo.specs.Blocks.{is_place}
use Rattle.eutxo.specs.Faults.{first_index}
use Rattle.eutxo.proofs.block_rules.stray_index.Given as goal

abbrev pub invariant-loop-i : goal.invariant-loop-i
invariant-loop-i l =
    let test = λ (i : ℕ) (o : Output). is_contract o.lock && not (list_any (is_place i) l.places) in
    first_index test 0 l.outputs ≡ first_index test l.i (drop l.i l.outputs)
