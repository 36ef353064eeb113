use Rattle.std.proofs.Common.{◌+◌, ◌*◌}
use Rattle.std.specs.Prelude.{max}
use Rattle.table.specs.Heights.{value_height, observation_height}
use Rattle.table.specs.Flat.{value_tree, observation_tree}
use Rattle.table.proofs.table.decompile.«+value_at».Given as goal

abbrev pub decreases-value_at : goal.decreases-value_at
decreases-value_at l = 3 * value_height (value_tree l.table.now l.number)

abbrev pub decreases-boxed_value_at : goal.decreases-boxed_value_at
decreases-boxed_value_at l = 3 * value_height (value_tree l.table.now l.number) + 1

abbrev pub decreases-observation_at : goal.decreases-observation_at
decreases-observation_at l = 3 * observation_height (observation_tree l.table.now l.number)

abbrev pub decreases-boxed_observation_at : goal.decreases-boxed_observation_at
decreases-boxed_observation_at l = 3 * observation_height (observation_tree l.table.now l.number) + 1

abbrev pub decreases-two_values_at : goal.decreases-two_values_at
decreases-two_values_at l = 3 * max (value_height (value_tree l.table.now l.a)) (value_height (value_tree l.table.now l.b)) + 2

abbrev pub decreases-two_observations_at : goal.decreases-two_observations_at
decreases-two_observations_at l = 3 * max (observation_height (observation_tree l.table.now l.a)) (observation_height (observation_tree l.table.now l.b)) + 2
