-- Accounts of which each has one entry: what it has now takes the place of what it had.
use Rattle.std.specs.Prelude.{◌≡◌, ℕ, ◌<◌, List, length, get_or}
use Rattle.std.specs.FinMap.Entries.{find}
use Rattle.contract.specs.Names.declared.account.Account.{Account}
use Rattle.contract.specs.Names.Orders.{account_cmp}
use Rattle.linear.specs.Linear.{Linear}
use Rattle.analysis_values.specs.Known.{Known, EntriesBelow}

-- the same is found of each account, and no more symbols are spoken of
pub record AreAsFound (old new : List (Account × Linear)) : Type 0 where
  pub found : (a : Account) → find account_cmp a new ≡ find account_cmp a old
  pub below : (n : ℕ) → EntriesBelow n old → EntriesBelow n new

-- the entry of an account stands at a place
abbrev pub IsPlaceOf : List (Account × Linear) → Account → ℕ → Type 0
IsPlaceOf es a i = (i < length es) × ((e : Account × Linear) → e ≡ get_or es i e → e.0 ≡ a)

-- the same is known, told by other entries of what accounts hold and of what parties were paid
pub record IsAsKnown (k m : Known) : Type 0 where
  pub symbols : m.symbols ≡ k.symbols
  pub view : m.view ≡ record (k.view) { accounts = m.view.accounts; paid = m.view.paid }
  pub accounts : AreAsFound k.view.accounts m.view.accounts
  pub paid : AreAsFound k.view.paid m.view.paid
