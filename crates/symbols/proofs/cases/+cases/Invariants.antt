use Rattle.std.proofs.Common.{◌+◌, ◌*◌}
use Rattle.symbols.proofs.cases.+cases.Given as goal

abbrev pub decreases-natural_by_cases : goal.decreases-natural_by_cases
decreases-natural_by_cases l = l.steps * 3

abbrev pub decreases-natural_in_both : goal.decreases-natural_in_both
decreases-natural_in_both l = l.steps * 3 + 2

abbrev pub decreases-natural_where : goal.decreases-natural_where
decreases-natural_where l = l.steps * 3 + 1
