use Rattle.std.proofs.Common.{◌+◌, ◌*◌}
use Rattle.std.specs.Prelude.{max}
use Rattle.contract.specs.declared.value.Value.{size-Value}
use Rattle.contract.specs.declared.value.Observation.{size-Observation}
use Rattle.contract.proofs.equal.+same_value.Given as goal

-- what the parts need is less than what the whole needs
abbrev pub decreases-same_value : goal.decreases-same_value
decreases-same_value l = 3 * size-Value l.a.now

abbrev pub decreases-same_observation : goal.decreases-same_observation
decreases-same_observation l = 3 * size-Observation l.a.now

abbrev pub decreases-same_boxed_value : goal.decreases-same_boxed_value
decreases-same_boxed_value l = 3 * size-Value l.a.now + 1

abbrev pub decreases-same_boxed_observation : goal.decreases-same_boxed_observation
decreases-same_boxed_observation l = 3 * size-Observation l.a.now + 1

abbrev pub decreases-same_values : goal.decreases-same_values
decreases-same_values l = 3 * max (size-Value l.a0.now) (size-Value l.b0.now) + 2

abbrev pub decreases-same_observations : goal.decreases-same_observations
decreases-same_observations l = 3 * max (size-Observation l.a0.now) (size-Observation l.b0.now) + 2
