use Rattle.std.proofs.Common.{◌+◌, ◌*◌}
use Rattle.std.specs.Prelude.{max}
use Rattle.table.specs.Heights.{value_height, observation_height}
use Rattle.table.specs.Flat.{value_tree, observation_tree}
use Rattle.table.proofs.table.Table.«+evaluate».Given as goal

-- what the operands need is less than what the whole needs
abbrev pub decreases-checked_value : goal.decreases-checked_value
decreases-checked_value l = 2 * value_height (value_tree l.self.now l.number)

abbrev pub decreases-checked_holds : goal.decreases-checked_holds
decreases-checked_holds l = 2 * observation_height (observation_tree l.self.now l.number)

abbrev pub decreases-operands : goal.decreases-operands
decreases-operands l = 2 * max (value_height (value_tree l.self.now l.a)) (value_height (value_tree l.self.now l.b)) + 1
