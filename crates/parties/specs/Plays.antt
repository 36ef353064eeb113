-- What a party does with its seat.
use Rattle.std.specs.Prelude.{◌≡◌, ℕ, ◌≤◌, ◌⊎◌, if◌then◌else◌, List, [], ◌∷◌, ◌++◌, map, length, drop, slice_get, Option, Some, None, Result, Ok, Err}
use Rattle.std.specs.List.{Any}
use Rattle.contract.specs.declared.input.Input.{Input}
use Rattle.contract.specs.declared.interval.Interval.{Interval}
use Rattle.hub.specs.EutxoTypes.declared.output_ref.OutputRef.{OutputRef}
use Rattle.hub.specs.EutxoTypes.declared.tx.Tx.{Tx}
use Rattle.hub.specs.Ledger.declared.ask.Ask.{Ask}
use Rattle.hub.specs.Ledger.declared.call.Call.{Call}
use Rattle.hub.specs.Ledger.declared.call.Call.TheVariants as on
use Rattle.hub.specs.Ledger.declared.call.Reply.TheVariants as replies
use Rattle.hub.specs.Ledger.declared.look.Look.{Look}
use Rattle.hub.specs.Ledger.declared.look.Unspent.{Unspent}
use Rattle.hub.specs.LedgerSpec.BuilderSpec.declared.fault.BuildFault.{BuildFault}
use Rattle.hub.specs.LedgerSpec.BuilderSpec.Built.{build_answer}
use Rattle.hub.specs.LedgerSpec.BuilderSpec.Requests.{Part, StepRequest, request, StepsRequest, steps_request, ClaimRequest, claim_request}
use Rattle.hub.specs.LedgerSpec.BuilderSpec.Parts.{hinders_steps, layout_steps, hinders_step, layout_step}
use Rattle.hub.specs.LedgerSpec.BuilderSpec.Claims.{hinders_claim, layout_claim}
use Rattle.plans.specs.declared.intent.Intent.{Intent}
use Rattle.plans.specs.declared.intent.Intent.TheVariants.{Step, Steps, Claim, Round, Advance}
use Rattle.plans.specs.declared.plan.Plan.{Plan}
use Rattle.hub.specs.declared.answer.Answer.{Answer}
use Rattle.hub.specs.Seats.{SeatRecord, ReceiptRecord}
use Rattle.parties.specs.declared.left_out.LeftOut.{LeftOut}

-- ---- what is played: a thread is named by its start output, a contract by its currency

abbrev pub PlayedIntent : Type 0
PlayedIntent = Intent OutputRef (List ℕ)

abbrev pub PlayedPlan : Type 0
PlayedPlan = Plan OutputRef (List ℕ)

-- ---- what an intent asks for, and what its builder answers on what it is shown: the layout of a request that nothing hinders, or what hinders it

-- a step: its thread, and what is under the plan's keys
abbrev pub step_ask : PlayedPlan → OutputRef → Ask
step_ask plan thread = record { thread = Some thread; keys = plan.keys; payouts = [] }

-- a claim: the payouts to the role, and what is under the plan's keys
abbrev pub claim_ask : PlayedPlan → List ℕ → List ℕ → Ask
claim_ask plan currency role = record { thread = None; keys = plan.keys; payouts = record { currency = currency; role = role } ∷ [] }

-- a step: a request for the shown thread, to which all shown key outputs are offered, in order; the plan's keys sign, and its change address gets the
-- change
abbrev pub step_request : PlayedPlan → List Input → Interval → Look → StepRequest
step_request plan inputs interval look = request interval inputs plan.keys look.keys plan.change

abbrev pub step_answer : Look → StepRequest → Result Tx BuildFault
step_answer look r = build_answer (hinders_step look r) (layout_step look r)

abbrev pub step_made : PlayedPlan → List Input → Interval → Look → Result Tx BuildFault
step_made plan inputs interval look = step_answer look (step_request plan inputs interval look)

-- steps of several threads: a request with a part for each, as its look shows it; offered are the key outputs of the first look
abbrev pub offered_by : List Look → List Unspent
offered_by [] = []
offered_by (look ∷ looks) = look.keys

abbrev pub parts_of : List (OutputRef × List Input) → List Look → List Part
parts_of [] looks = []
parts_of (s ∷ ss) [] = []
parts_of (s ∷ ss) (look ∷ looks) = record { look = look; inputs = s.1 } ∷ parts_of ss looks

abbrev pub joint_request : PlayedPlan → List (OutputRef × List Input) → Interval → List Look → StepsRequest
joint_request plan steps interval looks = steps_request (parts_of steps looks) interval plan.keys (offered_by looks) plan.change

abbrev pub steps_answer : StepsRequest → Result Tx BuildFault
steps_answer r = build_answer (hinders_steps r) (layout_steps r)

abbrev pub steps_made : PlayedPlan → List (OutputRef × List Input) → Interval → List Look → Result Tx BuildFault
steps_made plan steps interval looks = steps_answer (joint_request plan steps interval looks)

-- a claim: a request for all shown payouts; they go to the change address, too
abbrev pub payout_request : PlayedPlan → Interval → Look → ClaimRequest
payout_request plan interval look = claim_request look.payouts interval plan.keys look.keys plan.change plan.change

abbrev pub claim_answer : ClaimRequest → Result Tx BuildFault
claim_answer r = build_answer (hinders_claim r) (layout_claim r)

abbrev pub claim_made : PlayedPlan → Interval → Look → Result Tx BuildFault
claim_made plan interval look = claim_answer (payout_request plan interval look)

-- what an intent asks to be shown, in order: one look, or one for each of several threads
abbrev pub asks_of : PlayedPlan → PlayedIntent → List Ask
asks_of plan (Step thread inputs interval pooled) = step_ask plan thread ∷ []
asks_of plan (Steps steps interval pooled) = map (λ s. step_ask plan s.0) steps
asks_of plan (Claim currency role interval) = claim_ask plan currency role ∷ []
asks_of plan (Round count workers) = []
asks_of plan (Advance tick) = []

-- what the builder answers on the first of some looks
abbrev pub by_first : (Look → Result Tx BuildFault) → List Look → Option (Result Tx BuildFault)
by_first made [] = None
by_first made (look ∷ looks) = Some (made look)

-- what it answers on the looks
abbrev pub made_of : PlayedPlan → PlayedIntent → List Look → Option (Result Tx BuildFault)
made_of plan (Step thread inputs interval pooled) looks = by_first (step_made plan inputs interval) looks
made_of plan (Steps steps interval pooled) looks = Some (steps_made plan steps interval looks)
made_of plan (Claim currency role interval) looks = by_first (claim_made plan interval) looks
made_of plan (Round count workers) looks = None
made_of plan (Advance tick) looks = None

-- ---- whose call it is, by the answers before it

-- these answers show the looks that were asked for
abbrev pub AreLooks : List Ask → List Look → List Answer → Type 0
AreLooks [] [] [] = Unit {0}
AreLooks (ask ∷ asks) (look ∷ looks) (a ∷ answers) = (a.call ≡ on.Look ask) × (a.reply ≡ replies.Look look) × AreLooks asks looks answers
AreLooks _ _ _ = ⊥

-- the last answers do
abbrev pub WereShown : List Ask → List Look → List Answer → Type 0
WereShown asks looks before = (earlier last : List Answer) × (before ≡ earlier ++ last) × AreLooks asks looks last

-- a call looks, or hands in what the builder makes of the look that was shown just before: nothing hinders that request
abbrev pub LooksOrHandsIn : Ask → (Tx → Call) → (Look → Result Tx BuildFault) → List Answer → Call → Type 0
LooksOrHandsIn ask hand_in made before call =
    (call ≡ on.Look ask)
    ⊎ ((look : Look) × (tx : Tx) × (WereShown (ask ∷ []) (look ∷ []) before) × (made look ≡ Ok tx) × (call ≡ hand_in tx))

-- a call looks at one of several threads, or hands in what the builder makes of the looks that were shown just before, one for each, in order
abbrev pub LooksAllOrHandsIn : List Ask → (Tx → Call) → (List Look → Result Tx BuildFault) → List Answer → Call → Type 0
LooksAllOrHandsIn asks hand_in made before call =
    Any (λ ask. call ≡ on.Look ask) asks
    ⊎ ((looks : List Look) × (tx : Tx) × (WereShown asks looks before) × (made looks ≡ Ok tx) × (call ≡ hand_in tx))

-- OF AN INTENT: a call of the seat, by the answers before it
abbrev pub IsOf : PlayedPlan → List Answer → Call → PlayedIntent → Type 0
IsOf plan before call (Step thread inputs interval pooled) =
    LooksOrHandsIn (step_ask plan thread) (λ tx. if pooled then on.Enqueue tx else on.Submit tx) (step_made plan inputs interval) before call
IsOf plan before call (Steps steps interval pooled) =
    LooksAllOrHandsIn (map (λ s. step_ask plan s.0) steps) (λ tx. if pooled then on.Enqueue tx else on.Submit tx) (steps_made plan steps interval)
    before call
IsOf plan before call (Claim currency role interval) =
    LooksOrHandsIn (claim_ask plan currency role) on.Submit (claim_made plan interval) before call
IsOf plan before call (Round count workers) = call ≡ on.Round count
IsOf plan before call (Advance tick) = call ≡ on.Advance tick

-- OF A PLAN: of one of its intents
abbrev pub IsOfPlan : PlayedPlan → List Answer → Call → Type 0
IsOfPlan plan before call = Any (λ intent. IsOf plan before call intent) plan.intents

-- each of these answers, the first with these before it
abbrev pub AreOf : PlayedPlan → List Answer → List Answer → Type 0
AreOf plan before [] = Unit {0}
AreOf plan before (a ∷ rest) = IsOfPlan plan before a.call × AreOf plan (before ++ a ∷ []) rest

-- OF THE PLAN: each of these answers is, and what was handed in was made of looks among them. In which order intents come, and whether each does, is left
-- free
abbrev pub AreOfPlan : PlayedPlan → List Answer → Type 0
AreOfPlan plan answers = AreOf plan [] answers

-- ---- what is left out

-- LEFT OUT: an intent of the plan, whose builder refuses it by looks that were shown to its asks; they stand at these places, and this hinders its request
pub record IsLeftOut (plan : PlayedPlan) (answers : List Answer) (l : LeftOut) : Type 0 where
  pub intent : PlayedIntent
  pub at : slice_get plan.intents l.intent ≡ Some intent
  pub earlier : List Answer
  pub shown : List Answer
  pub later : List Answer
  pub among : answers ≡ earlier ++ (shown ++ later)
  pub looks : List Look
  pub are : AreLooks (asks_of plan intent) looks shown
  pub places : l.looks.items ≡ map (λ (a : Answer). a.place) shown
  pub refused : made_of plan intent looks ≡ Some (Err l.fault)

-- ---- a seat before and after

-- the answers that were added
abbrev pub added : SeatRecord → SeatRecord → List Answer
added old new = drop (length old.answers) new.answers

-- WITHIN: where the party stops after some calls, no more are answered; or nothing was called
abbrev pub IsWithin : Option ℕ → SeatRecord → SeatRecord → Type 0
IsWithin None old new = Unit {0}
IsWithin (Some n) old new = (length new.answers ≤ n) ⊎ (new ≡ old)

-- the receipt of a seat's answered call
abbrev pub receipt_of : ℕ → Answer → ReceiptRecord
receipt_of seat a = record { entry = a.place; seat = seat; number = a.number; reply = a.reply }
