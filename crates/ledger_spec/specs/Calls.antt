-- The table of calls: what each is answered, and what it publishes.
use Rattle.std.specs.Prelude.{ℕ, ℤ, int_le, nat_lt, Bool, if◌then◌else◌, List, [], ◌∷◌, ◌++◌, take, length, Option, Some, None, Result, Ok, Err}
use Rattle.contract.specs.Collections.Same.{same_by}
use Rattle.builder_spec.specs.Compiler.declared.fault.CompileFault.{CompileFault}
use Rattle.builder_spec.specs.EutxoTypes.declared.fault.TxFault.{TxFault}
use Rattle.builder_spec.specs.EutxoTypes.declared.tx.Tx.{Tx}
use Rattle.builder_spec.specs.EutxoTypes.Ids.{id_of}
use Rattle.builder_spec.specs.Eutxo.Judgement.{judge}
use Rattle.builder_spec.specs.Eutxo.Local.{verdict_of}
use Rattle.builder_spec.specs.Roles.contracts.published.Published as publications
use Rattle.builder_spec.specs.Roles.declared.published.Published.{Published}
use Rattle.builder_spec.specs.Roles.Steps.{marlowe}
use Rattle.builder_spec.specs.Ledger.declared.call.Call.{Call}
use Rattle.builder_spec.specs.Ledger.declared.call.Call.TheVariants as on
use Rattle.builder_spec.specs.Ledger.declared.call.Reply.{Reply}
use Rattle.builder_spec.specs.Ledger.declared.call.Reply.TheVariants as answer
use Rattle.builder_spec.specs.Ledger.declared.call.Ticketed.{Ticketed}
use Rattle.ledger_spec.specs.Replay.{Pending, World, published_at, publication, with_object, moment_of}
use Rattle.ledger_spec.specs.Views.{look}

-- how many transactions may be pending
abbrev pub most_pending : ℕ
most_pending = 1024

-- whether two publications are of the same contract and currency
abbrev pub same_publication : Published → Published → Bool
same_publication p q = same_by publications.the_row.coded p q

abbrev pub publish_reply_beside : Published → Option Published → Reply
publish_reply_beside p None = answer.Published p.id
publish_reply_beside p (Some known) = if same_publication known p then answer.Published p.id else answer.IdInUse

abbrev pub publish_reply : World → Result Published CompileFault → Reply
publish_reply w (Err fault) = answer.NotCompiled fault
publish_reply w (Ok p) = publish_reply_beside p (published_at w.published p.id)

-- no rule refuses it, or the first that does answers
abbrev pub fault_on : World → Tx → Option TxFault
fault_on w tx = judge marlowe (moment_of w) tx

abbrev pub submit_reply : Tx → Option TxFault → Reply
submit_reply tx None = answer.Accepted (id_of tx)
submit_reply tx (Some fault) = answer.Refused fault

-- with one more accepted transaction
abbrev pub with_accepted : World → Tx → World
with_accepted w tx = record w { replay = record w.replay { accepted = w.replay.accepted ++ tx ∷ [] } }

abbrev pub with_accepted_unless : {F : Type 0} → World → Tx → Option F → World
with_accepted_unless w tx None = with_accepted w tx
with_accepted_unless w tx (Some fault) = w

-- the verdicts of a round, in order, each after those that were accepted before
abbrev pub round_verdicts : World → List Pending → List Ticketed
round_verdicts w [] = []
round_verdicts w (p ∷ ps) = record { ticket = p.0; verdict = verdict_of (fault_on w p.1) } ∷ round_verdicts (with_accepted_unless w p.1 (fault_on w p.1)) ps

-- what stands where the place behind these is judged
abbrev pub after_places : World → List Pending → World
after_places w [] = w
after_places w (p ∷ ps) = after_places (with_accepted_unless w p.1 (fault_on w p.1)) ps

abbrev pub advance_reply : ℤ → ℤ → Reply
advance_reply now t = if int_le now t then answer.Advanced else answer.Backward

abbrev pub enqueue_reply : World → Reply
enqueue_reply w = if nat_lt (length w.replay.pending) most_pending then answer.Ticket w.tickets else answer.Full

-- THE TABLE OF CALLS: what each is answered
abbrev pub reply_to : World → Call → Reply
reply_to w (on.Publish contract currency) = publish_reply w (publication contract currency)
reply_to w (on.Advance t) = advance_reply w.replay.tick t
reply_to w (on.Look ask) = answer.Look (look w ask)
reply_to w (on.Submit tx) = submit_reply tx (fault_on w tx)
reply_to w (on.Enqueue tx) = enqueue_reply w
reply_to w (on.Round k) = answer.Round (round_verdicts w (take k w.replay.pending))

-- what is published after a call
abbrev pub published_with : List Published → Call → List Published
published_with ps (on.Publish contract currency) = with_object ps (publication contract currency)
published_with ps call = ps
