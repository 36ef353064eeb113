-- No reader needs this file: it serves how a tally is brought on by an entry.
use Rattle.std.specs.Prelude.{◌≡◌, ℕ, ◌+◌, List, [], ◌∷◌, ◌++◌, drop, if◌then◌else◌, nat_eq, is_some, Option, Some, None}
use Rattle.chain_index.specs.Ledger.declared.call.Call.{Call}
use Rattle.chain_index.specs.Ledger.declared.call.Call.TheVariants as on
use Rattle.chain_index.specs.Ledger.declared.call.Entry.{Entry}
use Rattle.chain_index.specs.Ledger.declared.call.Reply.{Reply}
use Rattle.chain_index.specs.Ledger.declared.call.Ticketed.{Ticketed}
use Rattle.chain_index.specs.Ledger.Replies.{is_advanced, is_accepted, ticket_in, verdicts_in, accepts}
use Rattle.ledger_kept.specs.declared.tally.Waiting.{Waiting}
use Rattle.ledger_kept.specs.Kept.{Tally, counted}

-- the entry of a pending transaction, where its place in a round accepted it
abbrev pub entry_at : Option Waiting → Ticketed → List ℕ
entry_at None v = []
entry_at (Some w) v = if accepts v.verdict then w.entry ∷ [] else []

-- of the pending transactions, the entries of those that the places of a round accepted
abbrev pub entries_among : List Waiting → List Ticketed → List ℕ
entries_among [] vs = []
entries_among (w ∷ ws) [] = []
entries_among (w ∷ ws) (v ∷ vs) = entry_at (Some w) v ++ entries_among ws vs

abbrev pub waiting_at : ℕ → ℕ → Waiting
waiting_at place n = record { ticket = n; entry = place }

abbrev pub with_waiting : Tally → ℕ → Option ℕ → Tally
with_waiting t place None = t
with_waiting t place (Some n) = record t { pending = t.pending ++ waiting_at place n ∷ [] }

-- what the entry at a place changes, but for what is counted
abbrev pub tally_after : Tally → ℕ → Call → Reply → Tally
tally_after t place (on.Publish contract currency) r = t
tally_after t place (on.Advance tick) r = if is_advanced r then record t { tick = tick } else t
tally_after t place (on.Look ask) r = t
tally_after t place (on.Submit tx) r = if is_accepted r then record t { places = t.places ++ place ∷ [] } else t
tally_after t place (on.Enqueue tx) r = with_waiting t place (ticket_in r)
tally_after t place (on.Round k) r = record t { places = t.places ++ entries_among t.pending (verdicts_in r); pending = drop k t.pending }

-- how many tickets there are after a reply
abbrev pub tickets_with : ℕ → Reply → ℕ
tickets_with n r = n + (if is_some (ticket_in r) then 1 else 0)

-- a seat has one entry more, and no other
abbrev pub HasOneMore : ℕ → List (ℕ × ℕ) → List (ℕ × ℕ) → Type 0
HasOneMore seat old new = (s : ℕ) → counted new s ≡ counted old s + (if nat_eq seat s then 1 else 0)

-- an entry is counted, and nothing else changes
pub record IsCounted (old : Tally) (e : Entry) (new : Tally) : Type 0 where
  pub tick : new.tick ≡ old.tick
  pub tickets : new.tickets ≡ tickets_with old.tickets e.reply
  pub pending : new.pending ≡ old.pending
  pub places : new.places ≡ old.places
  pub counts : HasOneMore e.seat old.counts new.counts
