use Rattle.std.proofs.Common.{◌+◌, ◌*◌}
use Rattle.std.specs.Prelude.{max}
use Rattle.contract.specs.declared.value.Value.{size-Value}
use Rattle.contract.specs.declared.value.Observation.{size-Observation}
use Rattle.run_ways.proofs.weights.«+weigh».Given as goal

-- what the parts need is less than what the whole needs
abbrev pub decreases-weigh_value : goal.decreases-weigh_value
decreases-weigh_value l = 3 * size-Value l.value.now

abbrev pub decreases-weigh_values : goal.decreases-weigh_values
decreases-weigh_values l = 3 * max (size-Value l.a.now) (size-Value l.b.now) + 1

abbrev pub decreases-weigh_cond : goal.decreases-weigh_cond
decreases-weigh_cond l = 3 * max (size-Observation l.observation.now) (max (size-Value l.a.now) (size-Value l.b.now)) + 2

abbrev pub decreases-weigh_observation : goal.decreases-weigh_observation
decreases-weigh_observation l = 3 * size-Observation l.observation.now

abbrev pub decreases-weigh_observations : goal.decreases-weigh_observations
decreases-weigh_observations l = 3 * max (size-Observation l.a.now) (size-Observation l.b.now) + 1
