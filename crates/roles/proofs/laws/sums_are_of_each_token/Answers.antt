use Rattle.std.specs.FinMap.{entries}
use Rattle.roles.proofs.SumsLemmas.{amount_of-sums, positive_sums}
use Rattle.roles.proofs.laws.sums_are_of_each_token.Goals as goal

pub returns-clause-totals : goal.returns-clause-totals
returns-clause-totals c s t = amount_of-sums (entries s.accounts) t

pub returns-clause-positive : goal.returns-clause-positive
returns-clause-positive c s h = positive_sums (entries s.accounts) h
