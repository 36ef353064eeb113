use Rattle.std.proofs.Common.{◌≡◌, drop}
use Rattle.eutxo.specs.Faults.{first_index}
use Rattle.eutxo.specs.Rules.{is_repeated}
use Rattle.eutxo.proofs.tx_rules.repeated_index.Given as goal

abbrev pub invariant-loop-i : goal.invariant-loop-i
invariant-loop-i l = first_index (is_repeated l.inputs) 0 l.inputs ≡ first_index (is_repeated l.inputs) l.i (drop l.i l.inputs)
