-- Where a Submit, or a place of a Round, accepts a transaction, and what that finds open there.
use Rattle.std.specs.Prelude.{◌≡◌, ℕ, List, take, slice_get, Some}
use Rattle.builder_spec.specs.EutxoTypes.declared.tx.Tx.{Tx}
use Rattle.builder_spec.specs.EutxoTypes.declared.verdict.Verdict.TheVariants as verdicts
use Rattle.builder_spec.specs.EutxoTypes.Fitting.{TxFits}
use Rattle.builder_spec.specs.EutxoTypes.Ids.{id_of}
use Rattle.builder_spec.specs.Ledger.declared.call.Call.TheVariants as on
use Rattle.builder_spec.specs.Ledger.declared.call.Reply.TheVariants as answer
use Rattle.builder_spec.specs.Ledger.declared.call.Ticketed.{Ticketed}
use Rattle.builder_spec.specs.Ledger.declared.look.Unspent.{Unspent}
use Rattle.ledger_spec.specs.Open.{IsOpen, Admits}
use Rattle.ledger_spec.specs.Replay.{Course, pending_entry, world, past_of, moment_of}
use Rattle.ledger_spec.specs.Calls.{after_places, reply_to}

-- a Submit of this transaction is answered that it is accepted
abbrev pub Accepts : Course → Tx → Type 0
Accepts c tx = reply_to (world c) (on.Submit tx) ≡ answer.Accepted (id_of tx)

-- the transaction fits its spelling, as all do that are built; and after this history, what it spends is unspent as it was handed in,
-- no accepted one of other bytes has its id, and the tick lies in its interval
abbrev pub IsOpenAfter : Course → List Unspent → Tx → Type 0
IsOpenAfter c spent tx = TxFits tx × IsOpen (past_of (world c)) (world c).replay.tick spent tx

-- a Round, however long, says of its n-th place that it is accepted
abbrev pub AcceptsPlace : Course → ℕ → Type 0
AcceptsPlace c n = (k : ℕ) (vs : List Ticketed) (v : Ticketed) → reply_to (world c) (on.Round k) ≡ answer.Round vs → slice_get vs n ≡ Some v → v.verdict ≡ verdicts.Accepted

-- there this transaction waits; and where those before it have been judged, what it spends is unspent as it was handed in, its id is unused, and the
-- tick lies in its interval
abbrev pub IsOpenAtPlace : Course → ℕ → List Unspent → Tx → Type 0
IsOpenAtPlace c n spent tx =
    (t : ℕ) × (slice_get (world c).replay.pending n ≡ Some (pending_entry t tx)) × Admits (moment_of (after_places (world c) (take n (world c).replay.pending))) spent tx
