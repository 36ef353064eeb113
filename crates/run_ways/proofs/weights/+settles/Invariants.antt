use Rattle.std.proofs.Common.{◌+◌, ◌*◌}
use Rattle.std.specs.Prelude.{max}
use Rattle.contract.specs.declared.tree.Contract.{size-Contract}
use Rattle.run_ways.proofs.weights.«+settles».Given as goal

-- what the parts need is less than what the whole needs
abbrev pub decreases-weigh_settling : goal.decreases-weigh_settling
decreases-weigh_settling l = 2 * size-Contract l.contract.now

abbrev pub decreases-weigh_either : goal.decreases-weigh_either
decreases-weigh_either l = 2 * max (size-Contract l.then.now) (size-Contract l.otherwise.now) + 1
