-- What stands after a legal history, in the words of its calls and replies.
use Rattle.std.specs.Prelude.{◌≡◌, ℕ, ◌==◌, ℤ, Bool, not, if◌then◌else◌, List, [], ◌∷◌, filter, Option, Some, None}
use Rattle.std.specs.List.{list_any, filter_map, flat_map}
use Rattle.builder_spec.specs.EutxoTypes.declared.tx.Tx.{Tx}
use Rattle.builder_spec.specs.Ledger.declared.call.Call.{Call}
use Rattle.builder_spec.specs.Ledger.declared.call.Call.TheVariants as on
use Rattle.builder_spec.specs.Ledger.declared.call.Entry.{Entry}
use Rattle.builder_spec.specs.Ledger.declared.call.Reply.{Reply}
use Rattle.builder_spec.specs.Ledger.declared.call.Reply.TheVariants as answer
use Rattle.builder_spec.specs.Ledger.declared.call.Ticketed.{Ticketed}
use Rattle.builder_spec.specs.Ledger.Replies.{verdicts_in, accepts}
use Rattle.ledger_spec.specs.Replay.{Course, Pending, pending_entry, world}
use Rattle.ledger_spec.specs.Legal.{IsLegal}

-- ---- the tick

abbrev pub advanced_by : Call → Reply → Option ℤ
advanced_by (on.Advance t) answer.Advanced = Some t
advanced_by call r = None

-- the ticks to which the entries advanced, in order
abbrev pub advances : List Entry → List ℤ
advances es = filter_map (λ e. advanced_by e.call e.reply) es

abbrev pub last_of : ℤ → List ℤ → ℤ
last_of t [] = t
last_of t (x ∷ xs) = last_of x xs

-- ---- the pool

abbrev pub enqueued_by : Call → Reply → Option Pending
enqueued_by (on.Enqueue tx) (answer.Ticket n) = Some (pending_entry n tx)
enqueued_by call r = None

-- what was enqueued, in order, with the tickets that were given
abbrev pub enqueued : List Entry → List Pending
enqueued es = filter_map (λ e. enqueued_by e.call e.reply) es

-- whether a round took a ticket
abbrev pub is_taken : List Entry → ℕ → Bool
is_taken es n = list_any (λ e. list_any (λ v. v.ticket == n) (verdicts_in e.reply)) es

-- ---- what was accepted

-- the transactions that were given a ticket: one at most in a legal history
abbrev pub of_ticket : List Entry → ℕ → List Tx
of_ticket es n = filter_map (λ p. if p.0 == n then Some p.1 else None) (enqueued es)

-- at a place of a round: the ticket's transaction, where the place accepts
abbrev pub accepted_in : List Entry → Ticketed → List Tx
accepted_in es v = if accepts v.verdict then of_ticket es v.ticket else []

-- a Submit that was answered Accepted, and the accepted places of a round
abbrev pub accepted_by : List Entry → Call → Reply → List Tx
accepted_by es (on.Submit tx) (answer.Accepted id) = tx ∷ []
accepted_by es (on.Round k) (answer.Round vs) = flat_map (accepted_in es) vs
accepted_by es call r = []

-- WHAT STANDS: the tick is the last that an entry advanced to, else the first; pending are the enqueued transactions that no round took, in
-- order, with their tickets; accepted are, in order, the Submits answered Accepted and the accepted places of the rounds
pub record StandsAsTold (c : Course) : Type 0 where
  pub tick : (world c).replay.tick ≡ last_of c.first_tick (advances c.entries)
  pub pending : (world c).replay.pending ≡ filter (λ p. not (is_taken c.entries p.0)) (enqueued c.entries)
  pub accepted : (world c).replay.accepted ≡ flat_map (λ e. accepted_by c.entries e.call e.reply) c.entries

abbrev pub LegalHistoriesStand : Type 0
LegalHistoriesStand = (c : Course) → IsLegal c → StandsAsTold c
