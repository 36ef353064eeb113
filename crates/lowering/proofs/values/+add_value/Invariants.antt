use Rattle.std.proofs.Common.{◌+◌}
use Rattle.contract.specs.Tree.{value_tree, observation_tree}
use Rattle.lowering.specs.Sizes.{value_size, observation_size}
use Rattle.lowering.proofs.values.«+add_value».Given as goal

abbrev pub decreases-add_observation : goal.decreases-add_observation
decreases-add_observation l = observation_size (observation_tree l.observation.now)

abbrev pub decreases-add_observations : goal.decreases-add_observations
decreases-add_observations l = observation_size (observation_tree l.a.now) + observation_size (observation_tree l.b.now)

abbrev pub decreases-add_value : goal.decreases-add_value
decreases-add_value l = value_size (value_tree l.value.now)

abbrev pub decreases-add_values : goal.decreases-add_values
decreases-add_values l = value_size (value_tree l.a.now) + value_size (value_tree l.b.now)
