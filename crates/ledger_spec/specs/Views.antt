-- What is shown of what stands: looks, and the front of the pool.
use Rattle.std.specs.Prelude.{◌≡◌, ℕ, Bool, false, not, ◌&&◌, if◌then◌else◌, List, map, filter, take, Option, Some, None, is_some, option_map}
use Rattle.std.specs.List.{list_any}
use Rattle.builder_spec.specs.Machine.declared.datum.Datum.{Datum}
use Rattle.builder_spec.specs.EutxoTypes.declared.lock.Lock.{Lock}
use Rattle.builder_spec.specs.EutxoTypes.declared.lock.Lock.TheVariants.{Key, Payout, Contract}
use Rattle.builder_spec.specs.EutxoTypes.declared.output.Output.{Output}
use Rattle.builder_spec.specs.EutxoTypes.declared.output_ref.OutputRef.{OutputRef}
use Rattle.builder_spec.specs.EutxoTypes.declared.output_ref.OutputRef.TheVariants.{Genesis, Made}
use Rattle.builder_spec.specs.EutxoTypes.declared.tx.Tx.{Tx}
use Rattle.builder_spec.specs.Eutxo.declared.resolved.Resolved.{Resolved}
use Rattle.builder_spec.specs.Eutxo.Faults.{first_of}
use Rattle.builder_spec.specs.Eutxo.Judgement.{found}
use Rattle.builder_spec.specs.EutxoTypes.Parts.{same_bytes, Instance, contract_at, steps, script_in, PayoutRole, payout_in}
use Rattle.builder_spec.specs.Roles.declared.published.Published.{Published}
use Rattle.builder_spec.specs.Ledger.declared.ask.Ask.{Ask}
use Rattle.builder_spec.specs.Ledger.declared.ask.PayoutLock.{PayoutLock}
use Rattle.builder_spec.specs.Ledger.declared.look.Look.{Look}
use Rattle.builder_spec.specs.Ledger.declared.look.ThreadOutput.{ThreadOutput}
use Rattle.builder_spec.specs.Ledger.declared.look.Unspent.{Unspent}
use Rattle.ledger_laws.specs.Past.{Past, unspent, unspent_at, has_id}
use Rattle.builder_spec.specs.Roles.Steps.{marlowe}
use Rattle.ledger_laws.specs.Threads.{StartsThread, thread_end}
use Rattle.ledger_spec.specs.Replay.{World, past_of, published_at, moment_of}

-- ---- the unspent outputs under a lock

-- keys of these addresses
abbrev pub is_key_of : List (List ℕ) → Lock → Bool
is_key_of keys (Key a) = list_any (λ b. same_bytes b a) keys
is_key_of keys (Payout currency role) = false
is_key_of keys (Contract script d) = false

-- payouts under these locks
abbrev pub is_among_payouts : List PayoutLock → Option PayoutRole → Bool
is_among_payouts locks None = false
is_among_payouts locks (Some p) = list_any (λ x. same_bytes x.currency p.currency && same_bytes x.role p.role) locks

abbrev pub is_payout_of : List PayoutLock → Lock → Bool
is_payout_of locks lock = is_among_payouts locks (payout_in lock)

abbrev pub unspent_of : OutputRef × Output → Unspent
unspent_of e = record { reference = e.0; output = e.1 }

-- the unspent outputs under the asked locks, in order of creation, each once
abbrev pub under_locks : (Lock → Bool) → Past → List Unspent
under_locks asked past = map unspent_of (filter (λ e. asked e.1.lock) (unspent past))

-- ---- a thread

-- a start output: a contract output of an accepted transaction that steps no contract
abbrev pub starts_in : OutputRef → Tx → Bool
starts_in (Genesis i) tx = false
starts_in (Made id i) tx = has_id id tx && (not (steps tx) && is_some (contract_at tx i))

-- where the thread from a start output ends; of another output, nowhere
abbrev pub end_of : (List ℕ → Option Published) → Past → OutputRef → Option OutputRef
end_of named past r = if list_any (starts_in r) past.accepted then thread_end marlowe named past r else None

-- so of an output that starts a thread it is where the thread ends, and of every other it is none
abbrev pub StartsAreTold : (List ℕ → Option Published) → Past → Type 0
StartsAreTold named past =
    (r : OutputRef) → (StartsThread past r → end_of named past r ≡ thread_end marlowe named past r) × ((StartsThread past r → ⊥) → end_of named past r ≡ None)

abbrev pub EachStartIsTold : Type 0
EachStartIsTold = (named : List ℕ → Option Published) (past : Past) → StartsAreTold named past

-- the contract that a transaction makes in the output that a reference names
abbrev pub instance_in : OutputRef → Tx → Option Instance
instance_in (Genesis i) tx = None
instance_in (Made id i) tx = if has_id id tx then contract_at tx i else None

-- the contract that was made there
abbrev pub instance_at : Past → OutputRef → Option Instance
instance_at past r = first_of (map (instance_in r) past.accepted)

-- the datum that its maker brought for it
abbrev pub made_datum : Past → OutputRef → Option Datum
made_datum past r = option_map (λ c. c.datum) (instance_at past r)

abbrev pub thread_output : OutputRef → Output → Datum → Option Published → Option ThreadOutput
thread_output r o d None = None
thread_output r o d (Some p) = Some (record { reference = r; output = o; datum = d; published = p })

-- what is published under the script of a contract lock
abbrev pub object_under : List Published → Option (List ℕ) → Option Published
object_under ps None = None
object_under ps (Some script) = published_at ps script

abbrev pub thread_output_in : List Published → OutputRef → Option Output → Option Datum → Option ThreadOutput
thread_output_in ps r None d = None
thread_output_in ps r (Some o) None = None
thread_output_in ps r (Some o) (Some d) = thread_output r o d (object_under ps (script_in o.lock))

abbrev pub thread_output_at : World → Option OutputRef → Option ThreadOutput
thread_output_at w None = None
thread_output_at w (Some q) = thread_output_in w.published q (unspent_at (past_of w) q) (made_datum (past_of w) q)

-- the unspent output of the asked thread, with the datum that its maker brought and what is published under its script
abbrev pub thread_shown : World → Option OutputRef → Option ThreadOutput
thread_shown w None = None
thread_shown w (Some r) = thread_output_at w (end_of (published_at w.published) (past_of w) r)

-- ---- a look

abbrev pub look : World → Ask → Look
look w ask = record { tick = w.replay.tick; thread = thread_shown w ask.thread; keys = under_locks (is_key_of ask.keys) (past_of w); payouts = under_locks (is_payout_of ask.payouts) (past_of w) }

-- ---- the front of the pool

-- a transaction with what is found of what it names
abbrev pub with_found : World → Tx → Tx × Resolved Published
with_found w tx = (tx, found (moment_of w) tx)

-- the first k of the pending transactions, in order, each with what is found now of what it names
abbrev pub pool_front : World → ℕ → List (Tx × Resolved Published)
pool_front w k = map (λ p. with_found w p.1) (take k w.replay.pending)
