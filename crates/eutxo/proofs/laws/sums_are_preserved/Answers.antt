use Rattle.eutxo.proofs.PreservedLemmas.{the_least_is_named}
use Rattle.eutxo.proofs.laws.sums_are_preserved.Goals as goal

pub returns-clause-least : goal.returns-clause-least
returns-clause-least c = the_least_is_named
