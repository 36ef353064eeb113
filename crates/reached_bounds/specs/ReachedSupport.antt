-- What runs come to, as they are played. It serves proofs alone.
use Rattle.std.specs.Prelude.{◌≡◌, ℤ, ◌++◌, true, List}
use Rattle.contract.specs.Collections.Total.{total}
use Rattle.contract.specs.Names.declared.party.Party.{Party}
use Rattle.contract.specs.Names.declared.token.Token.{Token}
use Rattle.contract.specs.declared.payment.Payment.{Payment}
use Rattle.contract.specs.declared.transaction.Transaction.{Transaction}
use Rattle.semantics.specs.Walk.{Standing}
use Rattle.analysis_spec.specs.Runs.{payments_of}
use Rattle.losses.specs.Losses.{brought_by}
use Rattle.reached_bounds.specs.declared.played.Played.{Played}
use Rattle.reached_bounds.specs.Reached.{AreAccepted, Close}

-- what a party brings by transactions, whether they are accepted or not
abbrev pub brought_by_all : Party → Token → List Transaction → ℤ
brought_by_all party token = total (λ t. brought_by party token t.inputs)

-- what came of transactions, after payments before them
pub record IsPlayed (a : Standing) (before : List Payment) (ts : List Transaction) (p : Played) : Type 0 where
  pub accepted : AreAccepted a ts
  pub payments : p.payments ≡ before ++ payments_of a ts
  pub spent : p.is_spent ≡ true → Close a ts
