use Rattle.std.proofs.Common.{◌+◌, ◌*◌}
use Rattle.std.specs.Prelude.{max}
use Rattle.contract.specs.declared.value.Value.{size-Value}
use Rattle.analysis_values.proofs.plain.«+parts».Given as goal

-- what the parts need is less than what the whole needs
abbrev pub decreases-parts_left : goal.decreases-parts_left
decreases-parts_left l = 2 * size-Value l.value.now

abbrev pub decreases-left_of_two : goal.decreases-left_of_two
decreases-left_of_two l = 2 * max (size-Value l.left.now) (size-Value l.right.now) + 1
