use Rattle.std.proofs.Common.{◌+◌, ◌*◌}
use Rattle.std.specs.Prelude.{max}
use Rattle.contract.specs.declared.value.Value.{size-Value}
use Rattle.contract.specs.declared.value.Observation.{size-Observation}
use Rattle.json_write_contracts.proofs.values.+put_value.Given as goal

-- what the operands need is less than what the whole needs
abbrev pub decreases-put_value : goal.decreases-put_value
decreases-put_value l = 3 * size-Value l.value.now

abbrev pub decreases-put_observation : goal.decreases-put_observation
decreases-put_observation l = 3 * size-Observation l.observation.now

abbrev pub decreases-one_value : goal.decreases-one_value
decreases-one_value l = 3 * size-Value l.value.now + 2

abbrev pub decreases-one_observation : goal.decreases-one_observation
decreases-one_observation l = 3 * size-Observation l.observation.now + 2

abbrev pub decreases-two_values : goal.decreases-two_values
decreases-two_values l = 3 * max (size-Value l.v.now) (size-Value l.w.now) + 2

abbrev pub decreases-two_observations : goal.decreases-two_observations
decreases-two_observations l = 3 * max (size-Observation l.o.now) (size-Observation l.p.now) + 2

abbrev pub decreases-put_cond : goal.decreases-put_cond
decreases-put_cond l = 3 * max (size-Observation l.condition.now) (max (size-Value l.then.now) (size-Value l.otherwise.now)) + 2

abbrev pub decreases-value_member : goal.decreases-value_member
decreases-value_member l = 3 * size-Value l.value.now + 1

abbrev pub decreases-observation_member : goal.decreases-observation_member
decreases-observation_member l = 3 * size-Observation l.observation.now + 1
