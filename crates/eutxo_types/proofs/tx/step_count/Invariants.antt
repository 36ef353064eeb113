use Rattle.std.proofs.Common.{◌≡◌, take}
use Rattle.eutxo_types.specs.Parts.{step_count}
use Rattle.eutxo_types.proofs.tx.step_count.Given as goal

abbrev pub invariant-loop-x : goal.invariant-loop-x
invariant-loop-x l = l.count ≡ step_count (take l.x-index l.inputs)
