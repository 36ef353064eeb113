use Rattle.std.proofs.Common.{◌≡◌, take}
use Rattle.builder.proofs.fresh.copy_accounts.Given as goal

abbrev pub invariant-loop-account : goal.invariant-loop-account
invariant-loop-account l = l.entries ≡ take l.account-index l.accounts
