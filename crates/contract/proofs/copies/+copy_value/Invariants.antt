use Rattle.std.proofs.Common.{◌+◌, ◌*◌}
use Rattle.std.specs.Prelude.{max}
use Rattle.contract.specs.declared.value.Value.{size-Value}
use Rattle.contract.specs.declared.value.Observation.{size-Observation}
use Rattle.contract.proofs.copies.+copy_value.Given as goal

-- what the parts need is less than what the whole needs
abbrev pub decreases-copy_value : goal.decreases-copy_value
decreases-copy_value l = 3 * size-Value l.value.now

abbrev pub decreases-copy_observation : goal.decreases-copy_observation
decreases-copy_observation l = 3 * size-Observation l.observation.now

abbrev pub decreases-copy_boxed_value : goal.decreases-copy_boxed_value
decreases-copy_boxed_value l = 3 * size-Value l.value.now + 1

abbrev pub decreases-copy_boxed_observation : goal.decreases-copy_boxed_observation
decreases-copy_boxed_observation l = 3 * size-Observation l.observation.now + 1

abbrev pub decreases-copy_values : goal.decreases-copy_values
decreases-copy_values l = 3 * max (size-Value l.a.now) (size-Value l.b.now) + 2

abbrev pub decreases-copy_observations : goal.decreases-copy_observations
decreases-copy_observations l = 3 * max (size-Observation l.a.now) (size-Observation l.b.now) + 2
