-- When a layout is accepted after what a ledger accepted, however it came by it.
use Rattle.std.specs.Prelude.{◌≡◌, ℕ, ℤ, List, ◌++◌, slice_get, All, Option, Some, None}
use Rattle.ledger_spec.specs.EutxoTypes.declared.tx.Tx.{Tx}
use Rattle.ledger_spec.specs.EutxoTypes.Fitting.{TxFits}
use Rattle.ledger_spec.specs.EutxoTypes.Spelling.{tx_bytes}
use Rattle.ledger_spec.specs.Eutxo.Judgement.{judge}
use Rattle.ledger_spec.specs.Roles.declared.published.Published.{Published}
use Rattle.ledger_spec.specs.BuilderSpec.Requests.{StepsRequest, StartRequest, ClaimRequest}
use Rattle.ledger_spec.specs.BuilderSpec.Parts.{threads_of, parts_spent, ArePublished, hinders_steps, layout_steps}
use Rattle.ledger_spec.specs.BuilderSpec.Steps.{Stepped}
use Rattle.ledger_spec.specs.BuilderSpec.Starts.{start_front, hinders_start, layout_start}
use Rattle.ledger_spec.specs.BuilderSpec.Claims.{claim_front, hinders_claim, layout_claim}
use Rattle.ledger_spec.specs.LedgerLaws.Past.{Past}
use Rattle.ledger_spec.specs.LedgerLaws.Sound.{moment}
use Rattle.ledger_spec.specs.Roles.Steps.{marlowe}
use Rattle.ledger_spec.specs.Open.{IsOpen}

-- the transaction and all that were accepted fit their spelling, as each does that was hashed
pub record Fit (past : Past) (tx : Tx) : Type 0 where
  pub fits : TxFits tx
  pub accepted : All TxFits past.accepted

-- so bytes tell it apart: an accepted transaction of its bytes is the same one
abbrev pub BytesTellApart : Type 0
BytesTellApart = (past : Past) (tx other : Tx) (n : ℕ) → Fit past tx → slice_get past.accepted n ≡ Some other → tx_bytes other ≡ tx_bytes tx → other ≡ tx

-- steps that nothing hinders are accepted then, where each thread's script is published as its look shows it
abbrev pub PartsAreAcceptedAfter : Type 0
PartsAreAcceptedAfter = (r : StepsRequest) (ss : List Stepped) (published : List ℕ → Option Published) (past : Past) (tick : ℤ) → threads_of r.parts ≡ Some ss → hinders_steps r ≡ None →
    ArePublished published ss → Fit past (layout_steps r) → IsOpen past tick (parts_spent r ss) (layout_steps r) → judge marlowe (moment published past tick) (layout_steps r) ≡ None

-- so is a start, where what is started is published under its id
abbrev pub StartsAreAcceptedAfter : Type 0
StartsAreAcceptedAfter = (r : StartRequest) (published : List ℕ → Option Published) (past : Past) (tick : ℤ) → hinders_start r ≡ None →
    published r.published.id ≡ Some r.published → Fit past (layout_start r) → IsOpen past tick (start_front r) (layout_start r) → judge marlowe (moment published past tick) (layout_start r) ≡ None

-- and a claim
abbrev pub ClaimsAreAcceptedAfter : Type 0
ClaimsAreAcceptedAfter = (r : ClaimRequest) (published : List ℕ → Option Published) (past : Past) (tick : ℤ) → hinders_claim r ≡ None →
    Fit past (layout_claim r) → IsOpen past tick (r.payouts ++ claim_front r) (layout_claim r) → judge marlowe (moment published past tick) (layout_claim r) ≡ None
