-- How a play is set up: what the ledger begins with, what seat 0 is told while contracts are published and threads started, and what plans name then.
use Rattle.std.specs.Prelude.{◌≡◌, ℕ, ℤ, List, [], ◌∷◌, ◌++◌, map, get_or, slice_get, Some, None, Result, Ok}
use Rattle.std.specs.List.{All, flat_map}
use Rattle.contract.specs.declared.input.Input.{Input}
use Rattle.contract.specs.Tree.{contract_tree}
use Rattle.parties.specs.EutxoTypes.declared.lock.Lock.TheVariants.{Key}
use Rattle.parties.specs.EutxoTypes.declared.output.Output.{Output}
use Rattle.parties.specs.EutxoTypes.declared.output_ref.OutputRef.{OutputRef}
use Rattle.parties.specs.EutxoTypes.declared.output_ref.OutputRef.TheVariants.{Genesis, Made}
use Rattle.parties.specs.EutxoTypes.declared.tx.Tx.{Tx}
use Rattle.parties.specs.EutxoTypes.Ids.{id_of}
use Rattle.parties.specs.LedgerSpec.Roles.declared.published.Published.{Published}
use Rattle.parties.specs.LedgerSpec.Roles.Publications.{published_of}
use Rattle.parties.specs.Ledger.declared.ask.Ask.{Ask}
use Rattle.parties.specs.Ledger.declared.call.Call.{Call}
use Rattle.parties.specs.Ledger.declared.call.Call.TheVariants as on
use Rattle.parties.specs.Ledger.declared.call.Entry.{Entry}
use Rattle.parties.specs.Ledger.declared.call.Reply.{Reply}
use Rattle.parties.specs.Ledger.declared.call.Reply.TheVariants as replies
use Rattle.parties.specs.Ledger.declared.look.Look.{Look}
use Rattle.parties.specs.LedgerSpec.Replay.{Course}
use Rattle.parties.specs.LedgerSpec.BuilderSpec.declared.fault.BuildFault.{BuildFault}
use Rattle.parties.specs.LedgerSpec.BuilderSpec.Built.{build_answer}
use Rattle.parties.specs.LedgerSpec.BuilderSpec.Requests.{StartRequest, start_request}
use Rattle.parties.specs.LedgerSpec.BuilderSpec.Starts.{hinders_start, layout_start}
use Rattle.parties.specs.Plans.declared.intent.Intent.{Intent}
use Rattle.parties.specs.Plans.declared.intent.Intent.TheVariants.{Step, Steps, Claim, Round, Advance}
use Rattle.parties.specs.Plans.declared.plan.Plan.{Plan}
use Rattle.parties.specs.Plans.declared.scenario.Funds.{Funds}
use Rattle.parties.specs.Plans.declared.scenario.NamedContract.{NamedContract}
use Rattle.parties.specs.Plans.declared.scenario.NamedThread.{NamedThread}
use Rattle.parties.specs.Plans.declared.scenario.Scenario.{Scenario}
use Rattle.parties.specs.Answer.{Answer}
use Rattle.parties.specs.Plays.{PlayedIntent, PlayedPlan}

-- ---- the ledger's beginning

-- an output under the key of an address
abbrev pub key_output : Funds → Output
key_output f = record { lock = Key f.address; amount = f.amount }

-- a history that began with these outputs, at this tick
abbrev pub course : List Output → ℤ → List Entry → Course
course genesis tick entries = record { genesis = genesis; first_tick = tick; entries = entries }

-- ---- what seat 0 is told: calls with their replies

abbrev pub Told : Type 0
Told = Call × Reply

abbrev pub told : Answer → Told
told a = (a.call, a.reply)

-- a contract, as it is published
abbrev pub object_of : NamedContract → Published
object_of c = published_of (contract_tree c.contract) c.currency

-- it is published, under the id of its script
abbrev pub publishes : NamedContract → Told
publishes c = (on.Publish c.contract c.currency, replies.Published (object_of c).id)

-- a thread that was started: its contract as it is published, what was shown of who starts it, and the transaction
pub record Begun : Type 0 where
  pub thread : NamedThread
  pub object : Published
  pub look : Look
  pub tx : Tx

-- what is asked: the key of an address
abbrev pub key_ask : List ℕ → Ask
key_ask address = record { thread = None; keys = address ∷ []; payouts = [] }

-- the request: at the tick that was shown, signed by who starts the thread, to whom the change goes, with all that is shown under that key offered
abbrev pub start_asked : NamedThread → Published → Look → StartRequest
start_asked t object look = start_request object t.state (record { from = look.tick; to = look.tick }) (t.by ∷ []) look.keys t.by

abbrev pub start_made : NamedThread → Published → Look → Result Tx BuildFault
start_made t object look = build_answer (hinders_start (start_asked t object look)) (layout_start (start_asked t object look))

-- the contract is the one that the thread names, and the builder makes the transaction of the look
pub record Begins (objects : List Published) (b : Begun) : Type 0 where
  pub object : slice_get objects b.thread.contract ≡ Some b.object
  pub made : start_made b.thread b.object b.look ≡ Ok b.tx

-- a look at the key of who starts it, and the transaction, which is accepted
abbrev pub starts : Begun → List Told
starts b = (on.Look (key_ask b.thread.by), replies.Look b.look) ∷ (on.Submit b.tx, replies.Accepted (id_of b.tx)) ∷ []

-- SET UP: all contracts are published, in order, and then all threads started, in order
pub record IsSetUp (s : Scenario) (begun : List Begun) (answers : List Answer) : Type 0 where
  pub threads : map (λ (b : Begun). b.thread) begun ≡ s.threads
  pub begin : All (Begins (map object_of s.contracts)) begun
  pub calls : map told answers ≡ map publishes s.contracts ++ flat_map starts begun

-- ---- what plans name: threads by their start outputs, contracts by their currencies

-- a start puts the contract's output first
abbrev pub start_output : Begun → OutputRef
start_output b = Made (id_of b.tx) 0

abbrev pub currencies : List NamedContract → List (List ℕ)
currencies contracts = map (λ (c : NamedContract). c.currency) contracts

-- no scenario that was read names a place outside of its lists
abbrev pub start_at : List OutputRef → ℕ → OutputRef
start_at outputs place = get_or outputs place (Genesis 0)

abbrev pub currency_at : List (List ℕ) → ℕ → List ℕ
currency_at names place = get_or names place []

abbrev pub step_on : List OutputRef → ℕ × List Input → OutputRef × List Input
step_on outputs s = (start_at outputs s.0, s.1)

abbrev pub intent_on : List (List ℕ) → List OutputRef → Intent ℕ ℕ → PlayedIntent
intent_on names outputs (Step thread inputs interval pooled) = Step (start_at outputs thread) inputs interval pooled
intent_on names outputs (Steps steps interval pooled) = Steps (map (step_on outputs) steps) interval pooled
intent_on names outputs (Claim contract role interval) = Claim (currency_at names contract) role interval
intent_on names outputs (Round count workers) = Round count workers
intent_on names outputs (Advance tick) = Advance tick

abbrev pub plan_on : List (List ℕ) → List OutputRef → Plan ℕ ℕ → PlayedPlan
plan_on names outputs p =
    record { name = p.name; keys = p.keys; change = p.change; intents = map (intent_on names outputs) p.intents; stop_after = p.stop_after }
