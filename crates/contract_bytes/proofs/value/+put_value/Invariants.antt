use Rattle.std.proofs.Common.{◌+◌, ◌*◌}
use Rattle.std.specs.Prelude.{max}
use Rattle.contract.specs.declared.value.Value.{size-Value}
use Rattle.contract.specs.declared.value.Observation.{size-Observation}
use Rattle.contract_bytes.proofs.value.+put_value.Given as goal

-- what the operands need is less than what the whole needs
abbrev pub decreases-put_value : goal.decreases-put_value
decreases-put_value l = 3 * size-Value l.value.now

abbrev pub decreases-put_observation : goal.decreases-put_observation
decreases-put_observation l = 3 * size-Observation l.observation.now

abbrev pub decreases-put_operand : goal.decreases-put_operand
decreases-put_operand l = 3 * size-Value l.value.now + 1

abbrev pub decreases-put_condition : goal.decreases-put_condition
decreases-put_condition l = 3 * size-Observation l.observation.now + 1

abbrev pub decreases-put_neg : goal.decreases-put_neg
decreases-put_neg l = 3 * size-Value l.a.now + 2

abbrev pub decreases-put_operands : goal.decreases-put_operands
decreases-put_operands l = 3 * max (size-Value l.a.now) (size-Value l.b.now) + 2

abbrev pub decreases-put_cond : goal.decreases-put_cond
decreases-put_cond l = 3 * max (size-Observation l.observation.now) (max (size-Value l.a.now) (size-Value l.b.now)) + 2

abbrev pub decreases-put_not : goal.decreases-put_not
decreases-put_not l = 3 * size-Observation l.a.now + 2

abbrev pub decreases-put_conditions : goal.decreases-put_conditions
decreases-put_conditions l = 3 * max (size-Observation l.a.now) (size-Observation l.b.now) + 2
