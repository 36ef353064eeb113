use Rattle.std.proofs.Common.{◌≡◌, ℤ, ◌++◌, drop, map}
use Rattle.contract.specs.Names.declared.account.Account.{Account}
use Rattle.contract.specs.States.States.{AllPositive}
use Rattle.coin_selection.proofs.amounts.amounts_of.Given as goal

abbrev pub invariant-loop-account : goal.invariant-loop-account
invariant-loop-account l = record {
  positive : AllPositive (drop l.account-index l.accounts);
  put : l.amounts.items ++ map (λ (e : Account × ℤ). (e.0.token, e.1)) (drop l.account-index l.accounts) ≡ map (λ (e : Account × ℤ). (e.0.token, e.1)) l.accounts;
}
