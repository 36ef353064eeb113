use Rattle.std.proofs.Common.{ℕ, ◌+◌, ◌*◌}
use Rattle.std.specs.Prelude.{max}
use Rattle.contract.specs.declared.value.Value.{size-Value}
use Rattle.contract.specs.declared.value.Observation.{size-Observation}
use Rattle.analysis_values.specs.declared.conditionals.Branch.{Branch}
use Rattle.analysis_values.specs.declared.conditionals.Branch.TheVariants.{Value, Cond}
use Rattle.analysis_values.proofs.«+values».Given as goal

-- what the parts need is less than what the whole needs
abbrev pub decreases-values::value_in : goal.decreases-values::value_in
decreases-values::value_in l = 128 * size-Value l.value.now

abbrev pub decreases-observations::truth_in : goal.decreases-observations::truth_in
decreases-observations::truth_in l = 128 * size-Observation l.observation.now

abbrev pub decreases-values::both_values : goal.decreases-values::both_values
decreases-values::both_values l = 128 * max (size-Value l.left.now) (size-Value l.right.now) + 3

abbrev pub decreases-values::opposite_of : goal.decreases-values::opposite_of
decreases-values::opposite_of l = 128 * size-Value l.value.now + 5

abbrev pub decreases-values::of_two : goal.decreases-values::of_two
decreases-values::of_two l = 128 * max (size-Value l.left.now) (size-Value l.right.now) + 5

abbrev pub branch_size : Branch → ℕ
branch_size (Value v) = 128 * size-Value v.now
branch_size (Cond o x y n) = 128 * max (size-Observation o.now) (max (size-Value x.now) (size-Value y.now)) + 8 * n + 10

abbrev pub decreases-conditionals::one_of_two : goal.decreases-conditionals::one_of_two
decreases-conditionals::one_of_two l = 128 * max (size-Observation l.condition.now) (max (size-Value l.first.now) (size-Value l.second.now)) + 76

abbrev pub decreases-conditionals::taken_apart : goal.decreases-conditionals::taken_apart
decreases-conditionals::taken_apart l = 128 * max (size-Observation l.condition.now) (max (size-Value l.first.now) (size-Value l.second.now)) + 8 * l.joined + 10

abbrev pub decreases-conditionals::by_opposite : goal.decreases-conditionals::by_opposite
decreases-conditionals::by_opposite l = 128 * max (size-Observation l.condition.now) (max (size-Value l.first.now) (size-Value l.second.now)) + 8 * l.joined + 12

abbrev pub decreases-conditionals::by_both : goal.decreases-conditionals::by_both
decreases-conditionals::by_both l = 128 * max (max (size-Observation l.left.now) (size-Observation l.right.now)) (max (size-Value l.first.now) (size-Value l.second.now)) + 8 * l.joined + 14

abbrev pub decreases-conditionals::by_one : goal.decreases-conditionals::by_one
decreases-conditionals::by_one l = 128 * max (max (size-Observation l.left.now) (size-Observation l.right.now)) (max (size-Value l.first.now) (size-Value l.second.now)) + 8 * l.joined + 14

abbrev pub decreases-conditionals::by_truth : goal.decreases-conditionals::by_truth
decreases-conditionals::by_truth l = max (128 * size-Observation l.condition.now) (max (branch_size l.one) (branch_size l.other)) + 3

abbrev pub decreases-conditionals::branch_where : goal.decreases-conditionals::branch_where
decreases-conditionals::branch_where l = branch_size l.branch + 2

abbrev pub decreases-conditionals::branch_in : goal.decreases-conditionals::branch_in
decreases-conditionals::branch_in l = branch_size l.branch + 1

abbrev pub decreases-conditionals::name_operations : goal.decreases-conditionals::name_operations
decreases-conditionals::name_operations l = 128 * size-Value l.value.now + 3

abbrev pub decreases-observations::compare : goal.decreases-observations::compare
decreases-observations::compare l = 128 * max (size-Value l.left.now) (size-Value l.right.now) + 5

abbrev pub decreases-observations::none_of : goal.decreases-observations::none_of
decreases-observations::none_of l = 128 * size-Observation l.observation.now + 5

abbrev pub decreases-observations::of_junction : goal.decreases-observations::of_junction
decreases-observations::of_junction l = 128 * max (size-Observation l.left.now) (size-Observation l.right.now) + 5

abbrev pub decreases-observations::truth_where : goal.decreases-observations::truth_where
decreases-observations::truth_where l = 128 * size-Observation l.observation.now + 3
