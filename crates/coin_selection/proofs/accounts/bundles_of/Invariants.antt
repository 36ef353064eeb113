use Rattle.std.proofs.Common.{◌≡◌, ℤ, ◌++◌, drop, map}
use Rattle.contract.specs.Names.declared.account.Account.{Account}
use Rattle.contract.specs.States.States.{AllPositive}
use Rattle.builder_spec.specs.Roles.Steps.{only}
use Rattle.coin_selection.proofs.accounts.bundles_of.Given as goal

abbrev pub invariant-loop-account : goal.invariant-loop-account
invariant-loop-account l = record {
  positive : AllPositive (drop l.account-index l.accounts);
  put : l.bundles.items ++ map (λ (e : Account × ℤ). only e.0.token e.1) (drop l.account-index l.accounts) ≡ map (λ (e : Account × ℤ). only e.0.token e.1) l.accounts;
}
