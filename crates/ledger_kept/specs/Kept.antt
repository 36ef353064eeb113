-- What a ledger keeps beside its entries, so that no call goes over them again, and what that has to do with them.
use Rattle.std.specs.Prelude.{◌≡◌, ℕ, ℤ, List, length, map, All, slice_get, Option, Some, None, nat_eq}
use Rattle.std.specs.Map.{lookup}
use Rattle.std.specs.Option.{unwrap_or}
use Rattle.chain_index.specs.EutxoTypes.declared.tx.Tx.{Tx}
use Rattle.chain_index.specs.EutxoTypes.Fitting.{TxFits}
use Rattle.chain_index.specs.Roles.Steps.{marlowe}
use Rattle.chain_index.specs.LedgerLaws.Sound.{IsSound}
use Rattle.chain_index.specs.Ledger.declared.call.Call.{Call}
use Rattle.chain_index.specs.Ledger.declared.call.Call.TheVariants as on
use Rattle.chain_index.specs.Ledger.declared.call.Entry.{Entry}
use Rattle.chain_index.specs.LedgerSpec.Replay.{Pending, World, Course, count_of, after_call, world, past_of, published_at}
use Rattle.chain_index.specs.LedgerSpec.Legal.{with_entry}
use Rattle.chain_index.specs.LedgerSpec.Calls.{reply_to, published_with}
use Rattle.chain_index.specs.Contents.{Contents, contents_of}
use Rattle.ledger_kept.specs.declared.tally.Waiting.{Waiting}

-- ---- the texts of transactions, which stand in the entries alone

abbrev pub text_in : Call → Option Tx
text_in (on.Submit tx) = Some tx
text_in (on.Enqueue tx) = Some tx
text_in call = None

abbrev pub text_of : Option Entry → Option Tx
text_of None = None
text_of (Some e) = text_in e.call

-- the transaction that the n-th entry submits or enqueues
abbrev pub text_at : List Entry → ℕ → Option Tx
text_at es n = text_of (slice_get es n)

-- ---- the tally

-- what is counted and kept of the entries
pub record Tally : Type 0 where
  -- the tick of the ledger
  pub tick : ℤ
  -- how many tickets were given
  pub tickets : ℕ
  -- the tickets that wait for a round, in order, each with the entry that enqueued its transaction
  pub pending : List Waiting
  -- of each accepted transaction, in order, the entry that brought it
  pub places : List ℕ
  -- of seats how many entries each has; of one that isn't there, none
  pub counts : List (ℕ × ℕ)

abbrev pub counted : List (ℕ × ℕ) → ℕ → ℕ
counted cs seat = unwrap_or (lookup (nat_eq seat) cs) 0

abbrev pub with_text : List Entry → Waiting → ℕ × Option Tx
with_text es w = (w.ticket, text_at es w.entry)

abbrev pub pending_text : Pending → ℕ × Option Tx
pending_text p = (p.0, Some p.1)

-- A TALLY IS OF A HISTORY: it says what the history's definitions say
pub record IsTally (t : Tally) (c : Course) : Type 0 where
  pub tick : t.tick ≡ (world c).replay.tick
  pub tickets : t.tickets ≡ (world c).tickets
  pub pending : map (with_text c.entries) t.pending ≡ map pending_text (world c).replay.pending
  pub places : map (text_at c.entries) t.places ≡ map (λ tx. Some tx) (world c).replay.accepted
  pub counts : (seat : ℕ) → counted t.counts seat ≡ count_of seat c.entries

-- ---- the index

-- AN INDEX IS OF WHAT STANDS: it has what is indexed of the past, which is sound and fits its spelling
pub record IsIndexOf (present : Contents) (w : World) : Type 0 where
  pub contents : present ≡ contents_of (past_of w) w.published
  pub sound : IsSound marlowe (published_at w.published) (past_of w)
  pub fits : All TxFits (past_of w).accepted

-- what stands after a call
abbrev pub world_with : World → Call → World
world_with w call = record w { published = published_with w.published call; replay = after_call w.replay call (reply_to w call) }

-- a tally of a history becomes that of the history with one entry more, at this place
abbrev pub TalliesEntry : ℕ → Entry → Tally → Tally → Type 0
TalliesEntry place entry old new = (c : Course) → length c.entries ≡ place → IsTally old c → IsTally new (with_entry c entry)
