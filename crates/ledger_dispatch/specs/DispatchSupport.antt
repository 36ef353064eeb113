-- No reader needs this file: how an index is judged by and added to, call by call, and what stands in the middle of a round.
use Rattle.std.specs.Prelude.{◌≡◌, ℤ, List, ◌++◌, Option, Some, None}
use Rattle.ledger_views.specs.EutxoTypes.declared.fault.TxFault.{TxFault}
use Rattle.ledger_views.specs.EutxoTypes.declared.tx.Tx.{Tx}
use Rattle.ledger_views.specs.EutxoTypes.Fitting.{TxFits}
use Rattle.ledger_views.specs.Eutxo.declared.judged.Judged.{Judged}
use Rattle.ledger_views.specs.Eutxo.Blocks.{places_in}
use Rattle.ledger_views.specs.Eutxo.Judgement.{found, judge, judgement}
use Rattle.ledger_views.specs.Eutxo.Local.{places_of}
use Rattle.ledger_views.specs.Roles.Steps.{marlowe}
use Rattle.ledger_views.specs.Ledger.declared.call.Ticketed.{Ticketed}
use Rattle.ledger_views.specs.LedgerSpec.Replay.{World, accepted_among}
use Rattle.ledger_views.specs.LedgerSpec.Calls.{fault_on, with_accepted_unless}
use Rattle.ledger_views.specs.ChainIndex.Contents.{Contents, blocks_in, accepting, moment_at, CanBeAdded}
use Rattle.ledger_views.specs.LedgerKept.Kept.{IsIndexOf}

-- ---- transactions

-- no rule refuses it by what is indexed at a tick, or the first that does answers
abbrev pub fault_in : Contents → ℤ → Tx → Option TxFault
fault_in c tick tx = judge marlowe (moment_at c tick) tx

-- with the places in which its contracts go on
abbrev pub judged_in : Contents → ℤ → Tx → Judged
judged_in c tick tx = judgement marlowe (moment_at c tick) tx

-- it can be added, and goes on in the places that its blocks say
pub record CanBeTaken (c : Contents) (tick : ℤ) (tx : Tx) : Type 0 where
  pub can : CanBeAdded c tx
  pub places : places_of marlowe tx (found (moment_at c tick) tx) ≡ places_in (blocks_in c tx)

-- what is indexed after a transaction of which this fault was found, or none
abbrev pub accepting_unless : Contents → Tx → Option TxFault → Contents
accepting_unless c tx None = accepting c tx
accepting_unless c tx (Some fault) = c

-- a transaction is judged by what is indexed as by what stands; where no rule refuses it, it can be added, and the index is then of what
-- stands after it
pub record IsJudgedAlike (present : Contents) (w : World) (tx : Tx) : Type 0 where
  pub fault : fault_in present w.replay.tick tx ≡ fault_on w tx
  pub can : fault_on w tx ≡ None → CanBeTaken present w.replay.tick tx
  pub tied : TxFits tx → IsIndexOf (accepting_unless present tx (fault_on w tx)) (with_accepted_unless w tx (fault_on w tx))

abbrev pub EachIsJudgedAlike : Type 0
EachIsJudgedAlike = (present : Contents) (w : World) (tx : Tx) → IsIndexOf present w → IsJudgedAlike present w tx

-- ---- rounds

-- what stands once the first places of a round have these verdicts
abbrev pub with_places : World → List Ticketed → World
with_places w vs = record w { replay = record w.replay { accepted = w.replay.accepted ++ accepted_among w.replay.pending vs } }
