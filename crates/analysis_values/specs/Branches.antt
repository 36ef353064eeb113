-- A Cond that is taken apart, and its branches.
use Rattle.contract.specs.declared.value.Value.{Value}
use Rattle.contract.specs.declared.value.Observation.{Observation}
use Rattle.contract.specs.Tree.{ValueTree, value_tree, cond_value, ObservationTree, observation_tree, not_obs, and_obs, or_obs}
use Rattle.analysis_values.specs.declared.conditionals.Branch.{Branch}
use Rattle.analysis_values.specs.declared.conditionals.Branch.TheVariants as branches

-- that an observation is false, that both of two are true, that one of two is
abbrev pub opposite_of : Observation → ObservationTree
opposite_of o = not_obs (observation_tree o)

abbrev pub both_of : Observation → Observation → ObservationTree
both_of o p = and_obs (observation_tree o) (observation_tree p)

abbrev pub one_of : Observation → Observation → ObservationTree
one_of o p = or_obs (observation_tree o) (observation_tree p)

-- one of two values, by an observation
abbrev pub cond_by : ObservationTree → Value → Value → ValueTree
cond_by o x y = cond_value o (value_tree x) (value_tree y)

-- the value that a branch is
abbrev pub branch_tree : Branch → ValueTree
branch_tree (branches.Value v) = value_tree v.now
branch_tree (branches.Cond o x y n) = cond_value (observation_tree o.now) (value_tree x.now) (value_tree y.now)

-- one of two branches, by an observation
abbrev pub branches_by : Observation → Branch → Branch → ValueTree
branches_by o x y = cond_value (observation_tree o) (branch_tree x) (branch_tree y)
