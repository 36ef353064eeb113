use Rattle.std.proofs.Common.{drop}
use Rattle.roles.proofs.SumsLemmas.{IsLeft}
use Rattle.roles.proofs.amounts.is_sums.Given as goal

abbrev pub invariant-loop-account : goal.invariant-loop-account
invariant-loop-account l = IsLeft l.amount l.left.items l.account-items (drop l.account-index l.account-items)
