-- What the callers are promised, over what a chain holds: its course, and what stands after it.
use Rattle.std.specs.Prelude.{◌≡◌, ◌⊎◌, ℕ, ◌≤ℤ◌, List, [], ◌++◌, All, Some, None}
use Rattle.contract.specs.declared.input.Input.{Input}
use Rattle.contract.specs.declared.interval.Interval.{Interval}
use Rattle.contract.specs.declared.tree.Contract.{Contract}
use Rattle.contract.specs.Tree.{contract_tree}
use Rattle.contract.specs.States.States.{StateMaps}
use Rattle.chain.specs.LedgerSpec.Evaluation.Timeouts.{last}
use Rattle.chain.specs.LedgerSpec.Semantics.Closing.{HasReached}
use Rattle.chain.specs.LedgerSpec.EutxoTypes.declared.output_ref.OutputRef.{OutputRef}
use Rattle.chain.specs.LedgerSpec.EutxoTypes.declared.output_ref.OutputRef.TheVariants.{Made}
use Rattle.chain.specs.LedgerSpec.EutxoTypes.declared.tx.Tx.{Tx}
use Rattle.chain.specs.LedgerSpec.EutxoTypes.Ids.{id_of}
use Rattle.chain.specs.LedgerSpec.Roles.Publications.{published_of}
use Rattle.chain.specs.LedgerSpec.LedgerLaws.Past.{unspent_at}
use Rattle.chain.specs.LedgerSpec.Ledger.declared.ask.Ask.{Ask}
use Rattle.chain.specs.LedgerSpec.Ledger.declared.call.Call.{Call}
use Rattle.chain.specs.LedgerSpec.Ledger.declared.call.Call.TheVariants as on
use Rattle.chain.specs.LedgerSpec.Ledger.declared.call.Reply.{Reply}
use Rattle.chain.specs.LedgerSpec.Ledger.declared.call.Reply.TheVariants as answer
use Rattle.chain.specs.LedgerSpec.Ledger.declared.look.Look.{Look}
use Rattle.chain.specs.LedgerSpec.Ledger.declared.look.Unspent.{Unspent}
use Rattle.chain.specs.LedgerSpec.Open.{IsAlone}
use Rattle.chain.specs.LedgerSpec.Replay.{Course, world, past_of}
use Rattle.chain.specs.LedgerSpec.Legal.{entry_of, with_entry}
use Rattle.chain.specs.LedgerSpec.Views.{look}
use Rattle.chain.specs.LedgerSpec.Calls.{reply_to}
use Rattle.chain.specs.LedgerSpec.BuilderSpec.declared.fault.BuildFault.{BuildFault}
use Rattle.chain.specs.LedgerSpec.BuilderSpec.Requests.{StepRequest, StartRequest, ClaimRequest, request, start_request, claim_request}
use Rattle.chain.specs.LedgerSpec.BuilderSpec.Steps.{Thread, thread_terms, look_thread}
use Rattle.chain.specs.LedgerSpec.BuilderSpec.Parts.{hinders_step, layout_step}
use Rattle.chain.specs.LedgerSpec.BuilderSpec.Closings.{closing, Closes}
use Rattle.chain.specs.LedgerSpec.BuilderSpec.Starts.{hinders_start, layout_start}
use Rattle.chain.specs.LedgerSpec.BuilderSpec.Claims.{claim_front, hinders_claim, layout_claim}

-- ---- calls

-- after one call more
abbrev pub called : Course → ℕ → Call → Course
called c seat call = with_entry c (entry_of c seat call)

-- the chain is as it was, or has one look more
abbrev pub OnlyLooked : Course → Course → ℕ → Ask → Type 0
OnlyLooked c new seat ask = (new ≡ c) ⊎ (new ≡ called c seat (on.Look ask))

-- what asks for one thread
abbrev pub thread_ask : OutputRef → Ask
thread_ask start = record { thread = Some start; keys = []; payouts = [] }

-- what is shown of it
abbrev pub thread_look : Course → OutputRef → Look
thread_look c start = look (world c) (thread_ask start)

-- the interval of the present tick alone
abbrev pub at_tick : Course → Interval
at_tick c = record { from = (world c).replay.tick; to = (world c).replay.tick }

-- a Submit is answered that this transaction is accepted, unless an accepted one of other bytes has its id
abbrev pub IsAccepted : Course → Tx → Reply → Type 0
IsAccepted c tx reply = IsAlone (past_of (world c)) tx → reply ≡ answer.Accepted (id_of tx)

-- ---- a step

-- a step at the present tick, with nothing offered
abbrev pub step_asked : Course → List Input → List (List ℕ) → List ℕ → StepRequest
step_asked c inputs signers change = request (at_tick c) inputs signers [] change

-- the thread stands, nothing hinders the step, and its Submit is answered that it is accepted
pub record IsStepped (c : Course) (start : OutputRef) (r : StepRequest) (reply : Reply) : Type 0 where
  pub thread : Thread
  pub shown : look_thread (thread_look c start) ≡ Some thread
  pub clear : hinders_step (thread_look c start) r ≡ None
  pub accepted : IsAccepted c (layout_step (thread_look c start) r) reply

-- after a look at the thread and that Submit
abbrev pub after_step : Course → ℕ → OutputRef → StepRequest → Course
after_step c seat start r = called (called c seat (on.Look (thread_ask start))) seat (on.Submit (layout_step (thread_look c start) r))

-- ---- closing

-- a step at the present tick, without inputs and signers, and with nothing offered
abbrev pub closing_asked : Course → List ℕ → StepRequest
closing_asked c change = closing (at_tick c) [] change

-- the tick has reached the last timeout of what remains of a thread, and its minimum time
pub record IsOver (c : Course) (e : Thread) : Type 0 where
  pub reached : HasReached (last ((thread_terms e).tree e.datum.cont)) (world c).replay.tick
  pub time : e.datum.state.min_time ≤ℤ (world c).replay.tick

-- it is accepted; and where the contract is over, all that the output held is paid to parties, and Close without accounts remains
pub record IsThreadClosed (c : Course) (start : OutputRef) (change : List ℕ) (reply : Reply) : Type 0 where
  pub stepped : IsStepped c start (closing_asked c change) reply
  pub paid : IsOver c stepped.thread → Closes (closing_asked c change) stepped.thread None

-- where a thread is over, only two things keep it from being closed: a number leaves 128 bits, or Close without accounts stands already
abbrev pub NeedNotClose : Course → OutputRef → List ℕ → BuildFault → Type 0
NeedNotClose c start change fault =
    (e : Thread) → look_thread (thread_look c start) ≡ Some e → IsOver c e → Closes (closing_asked c change) e (Some fault)

-- ---- the escrow

-- a contract with the currency of its roles' tokens, and the state that it starts from
pub record Deal : Type 0 where
  pub contract : Contract
  pub currency : List ℕ
  pub state : StateMaps

abbrev pub agreed : Contract → List ℕ → StateMaps → Deal
agreed contract currency state = record { contract = contract; currency = currency; state = state }

-- after it is published
abbrev pub after_publish : Course → ℕ → Deal → Course
after_publish c seat d = called c seat (on.Publish d.contract d.currency)

-- its start then, at the present tick
abbrev pub start_asked : Course → ℕ → Deal → List (List ℕ) → List Unspent → List ℕ → StartRequest
start_asked c seat d signers offered change = start_request (published_of (contract_tree d.contract) d.currency) d.state (at_tick (after_publish c seat d)) signers offered change

-- and after that is submitted
abbrev pub after_start : Course → ℕ → Deal → List (List ℕ) → List Unspent → List ℕ → Course
after_start c seat d signers offered change = called (after_publish c seat d) seat (on.Submit (layout_start (start_asked c seat d signers offered change)))

-- nothing hinders the start, it is accepted, and this is its output of the contract
pub record IsBegun (c : Course) (seat : ℕ) (d : Deal) (signers : List (List ℕ)) (offered : List Unspent) (change : List ℕ) (start : OutputRef) : Type 0 where
  pub clear : hinders_start (start_asked c seat d signers offered change) ≡ None
  pub accepted : reply_to (world (after_publish c seat d)) (on.Submit (layout_start (start_asked c seat d signers offered change))) ≡ answer.Accepted (id_of (layout_start (start_asked c seat d signers offered change)))
  pub output : start ≡ Made (id_of (layout_start (start_asked c seat d signers offered change))) 0

-- the contract was published and started; its thread was looked at and stepped with these inputs, which is accepted; and nothing else
-- was called
pub record IsEnded (c new : Course) (seat : ℕ) (d : Deal) (inputs : List Input) (signers : List (List ℕ)) (offered : List Unspent) (change : List ℕ) (reply : Reply) : Type 0 where
  pub start : OutputRef
  pub begun : IsBegun c seat d signers offered change start
  pub stepped : IsStepped (after_start c seat d signers offered change) start (step_asked (after_start c seat d signers offered change) inputs signers change) reply
  pub after : new ≡ after_step (after_start c seat d signers offered change) seat start (step_asked (after_start c seat d signers offered change) inputs signers change)

-- ---- claims

-- a claim at the present tick: all goes to one address
abbrev pub claim_asked : Course → List Unspent → List (List ℕ) → List Unspent → List ℕ → ClaimRequest
claim_asked c payouts signers offered to = claim_request payouts (at_tick c) signers offered to to

-- these are unspent, as they were handed in
abbrev pub AreUnspentAfter : Course → List Unspent → Type 0
AreUnspentAfter c us = All (λ u. unspent_at (past_of (world c)) u.reference ≡ Some u.output) us

-- nothing hinders the claim, and where what it spends is unspent, its Submit is answered that it is accepted
pub record IsClaimed (c : Course) (r : ClaimRequest) (reply : Reply) : Type 0 where
  pub clear : hinders_claim r ≡ None
  pub accepted : AreUnspentAfter c (r.payouts ++ claim_front r) → IsAccepted c (layout_claim r) reply

-- after its Submit
abbrev pub after_claim : Course → ℕ → ClaimRequest → Course
after_claim c seat r = called c seat (on.Submit (layout_claim r))
