use Rattle.std.proofs.Common.{◌+◌, ◌*◌}
use Rattle.std.specs.Prelude.{max}
use Rattle.contract.specs.declared.value.Value.{size-Value}
use Rattle.contract.specs.declared.value.Observation.{size-Observation}
use Rattle.evaluation.proofs.evaluate.«+evaluate».Given as goal

-- what the operands need is less than what the whole needs
abbrev pub decreases-checked_value : goal.decreases-checked_value
decreases-checked_value l = 2 * size-Value l.value.now

abbrev pub decreases-checked_holds : goal.decreases-checked_holds
decreases-checked_holds l = 2 * size-Observation l.observation.now

abbrev pub decreases-operands : goal.decreases-operands
decreases-operands l = 2 * max (size-Value l.a.now) (size-Value l.b.now) + 1
