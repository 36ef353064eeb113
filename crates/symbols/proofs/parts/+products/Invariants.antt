use Rattle.std.proofs.Common.{◌+◌, ◌*◌}
use Rattle.symbols.proofs.parts.+products.Given as goal

abbrev pub decreases-by_parts : goal.decreases-by_parts
decreases-by_parts l = l.steps * 2

abbrev pub decreases-by_second : goal.decreases-by_second
decreases-by_second l = l.steps * 2 + 1
