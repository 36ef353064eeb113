use Rattle.std.proofs.Common.{◌+◌, ◌*◌}
use Rattle.std.specs.Prelude.{max}
use Rattle.contract.specs.declared.value.Value.{size-Value}
use Rattle.contract.specs.declared.value.Observation.{size-Observation}
use Rattle.run_ways.proofs.constants.«+gather».Given as goal

-- what the parts need is less than what the whole needs
abbrev pub decreases-gather_value : goal.decreases-gather_value
decreases-gather_value l = 3 * size-Value l.value.now

abbrev pub decreases-gather_values : goal.decreases-gather_values
decreases-gather_values l = 3 * max (size-Value l.a.now) (size-Value l.b.now) + 1

abbrev pub decreases-gather_cond : goal.decreases-gather_cond
decreases-gather_cond l = 3 * max (size-Observation l.observation.now) (max (size-Value l.a.now) (size-Value l.b.now)) + 2

abbrev pub decreases-gather_observation : goal.decreases-gather_observation
decreases-gather_observation l = 3 * size-Observation l.observation.now

abbrev pub decreases-gather_observations : goal.decreases-gather_observations
decreases-gather_observations l = 3 * max (size-Observation l.a.now) (size-Observation l.b.now) + 1
