-- What stands after the entries of a history: read off their calls and replies alone.
use Rattle.std.specs.Prelude.{ℕ, ℤ, Bool, if◌then◌else◌, List, [], ◌∷◌, ◌++◌, drop, count_by, ◌==◌, Option, Some, None, is_some, Result, Ok, Err}
use Rattle.std.specs.List.{find}
use Rattle.contract.specs.declared.tree.Contract.{Contract}
use Rattle.contract.specs.Tree.{ContractTree, contract_tree}
use Rattle.builder_spec.specs.Compiler.declared.fault.CompileFault.{CompileFault}
use Rattle.builder_spec.specs.Compiler.Limits.{compile_fault}
use Rattle.builder_spec.specs.EutxoTypes.declared.output.Output.{Output}
use Rattle.builder_spec.specs.EutxoTypes.declared.tx.Tx.{Tx}
use Rattle.builder_spec.specs.Eutxo.Judgement.{Moment}
use Rattle.builder_spec.specs.EutxoTypes.Parts.{same_bytes}
use Rattle.builder_spec.specs.Roles.declared.published.Published.{Published}
use Rattle.builder_spec.specs.Roles.Publications.{published_of}
use Rattle.ledger_laws.specs.Past.{Past}
use Rattle.ledger_laws.specs.Sound.{moment}
use Rattle.builder_spec.specs.Ledger.declared.call.Call.{Call}
use Rattle.builder_spec.specs.Ledger.declared.call.Call.TheVariants as on
use Rattle.builder_spec.specs.Ledger.declared.call.Reply.{Reply}
use Rattle.builder_spec.specs.Ledger.declared.call.Entry.{Entry}
use Rattle.builder_spec.specs.Ledger.declared.call.Ticketed.{Ticketed}
use Rattle.builder_spec.specs.Ledger.Replies.{is_advanced, is_accepted, is_published, ticket_in, verdicts_in, accepts}

-- ---- tick, accepted and pending

-- a pending transaction, with its ticket
abbrev pub Pending : Type 0
Pending = ℕ × Tx

abbrev pub pending_entry : ℕ → Tx → Pending
pending_entry n tx = (n, tx)

pub record Replay : Type 0 where
  pub tick : ℤ
  pub accepted : List Tx
  pub pending : List Pending

-- a pending transaction, where its place in a round accepted it
abbrev pub accepted_at : Pending → Option Ticketed → List Tx
accepted_at p None = []
accepted_at p (Some v) = if accepts v.verdict then p.1 ∷ [] else []

-- of the pending transactions, those that the places of a round accepted
abbrev pub accepted_among : List Pending → List Ticketed → List Tx
accepted_among [] vs = []
accepted_among (p ∷ ps) [] = []
accepted_among (p ∷ ps) (v ∷ vs) = accepted_at p (Some v) ++ accepted_among ps vs

abbrev pub with_pending : Replay → Tx → Option ℕ → Replay
with_pending s tx None = s
with_pending s tx (Some n) = record s { pending = s.pending ++ pending_entry n tx ∷ [] }

-- what an entry changes
abbrev pub after_call : Replay → Call → Reply → Replay
after_call s (on.Publish c currency) r = s
after_call s (on.Advance t) r = if is_advanced r then record s { tick = t } else s
after_call s (on.Look ask) r = s
after_call s (on.Submit tx) r = if is_accepted r then record s { accepted = s.accepted ++ tx ∷ [] } else s
after_call s (on.Enqueue tx) r = with_pending s tx (ticket_in r)
after_call s (on.Round k) r = record s { accepted = s.accepted ++ accepted_among s.pending (verdicts_in r); pending = drop k s.pending }

abbrev pub replay_from : Replay → List Entry → Replay
replay_from s [] = s
replay_from s (e ∷ es) = replay_from (after_call s e.call e.reply) es

-- the tick that was advanced to last, else the first; what was accepted, in order; and what was enqueued and no round took
abbrev pub replay : ℤ → List Entry → Replay
replay t es = replay_from (record { tick = t; accepted = []; pending = [] }) es

-- whether an entry gave a ticket
unfoldable pub gives_ticket : Entry → Bool
gives_ticket e = is_some (ticket_in e.reply)

-- how many tickets were given
abbrev pub tickets : List Entry → ℕ
tickets es = count_by gives_ticket es

-- how many entries are of a seat
abbrev pub count_of : ℕ → List Entry → ℕ
count_of seat es = count_by (λ e. e.seat == seat) es

-- ---- what is published

abbrev pub published_at : List Published → List ℕ → Option Published
published_at ps id = find (λ p. same_bytes p.id id) ps

abbrev pub if_compiled : ContractTree → List ℕ → Option CompileFault → Result Published CompileFault
if_compiled c currency None = Ok (published_of c currency)
if_compiled c currency (Some fault) = Err fault

-- a contract and a currency as they are published, or why the contract isn't compiled
abbrev pub publication : Contract → List ℕ → Result Published CompileFault
publication c currency = if_compiled (contract_tree c) currency (compile_fault (contract_tree c))

-- one more, unless something is published under its id
abbrev pub with_object : List Published → Result Published CompileFault → List Published
with_object ps (Err fault) = ps
with_object ps (Ok p) = if is_some (published_at ps p.id) then ps else ps ++ p ∷ []

abbrev pub published_after : List Published → Call → Reply → List Published
published_after ps (on.Publish c currency) r = if is_published r then with_object ps (publication c currency) else ps
published_after ps call r = ps

abbrev pub published_from : List Published → List Entry → List Published
published_from ps [] = ps
published_from ps (e ∷ es) = published_from (published_after ps e.call e.reply) es

abbrev pub published : List Entry → List Published
published es = published_from [] es

-- ---- histories

-- a history, with the outputs and the tick that it began with
pub record Course : Type 0 where
  pub genesis : List Output
  pub first_tick : ℤ
  pub entries : List Entry

-- what stands after it
pub record World : Type 0 where
  pub genesis : List Output
  pub published : List Published
  pub replay : Replay
  pub tickets : ℕ

abbrev pub world : Course → World
world c = record { genesis = c.genesis; published = published c.entries; replay = replay c.first_tick c.entries; tickets = tickets c.entries }

-- its outputs and accepted transactions
abbrev pub past_of : World → Past
past_of w = record { genesis = w.genesis; accepted = w.replay.accepted }

-- what the rules read of it
abbrev pub moment_of : World → Moment Published
moment_of w = moment (published_at w.published) (past_of w) w.replay.tick
