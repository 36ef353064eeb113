-- From what each call answered to what the callers promise.
use Rattle.std.proofs.Common.{◌≡◌, inr, OnErr, ℕ, List, [], sym, ap, ◌∙◌, Some, Result, Ok, Err}
use Rattle.contract.specs.declared.input.Input.{Input}
use Rattle.contract.specs.declared.interval.Interval.{Interval}
use Rattle.chain.specs.LedgerSpec.EutxoTypes.declared.output_ref.OutputRef.{OutputRef}
use Rattle.chain.specs.LedgerSpec.EutxoTypes.declared.tx.Tx.{Tx}
use Rattle.chain.specs.LedgerSpec.EutxoTypes.Fitting.{TxFits}
use Rattle.chain.specs.LedgerSpec.Ledger.declared.ask.Ask.{Ask}
use Rattle.chain.specs.LedgerSpec.Ledger.declared.call.Call.TheVariants as on
use Rattle.chain.specs.LedgerSpec.Ledger.declared.call.Reply.{Reply}
use Rattle.chain.specs.LedgerSpec.Ledger.declared.look.Look.{Look}
use Rattle.chain.specs.LedgerSpec.Ledger.declared.look.Unspent.{Unspent}
use Rattle.chain.specs.LedgerSpec.Replay.{Course, world}
use Rattle.chain.specs.LedgerSpec.Views.{look}
use Rattle.chain.specs.LedgerSpec.Calls.{reply_to}
use Rattle.chain.specs.LedgerSpec.Headline.{BuildsAreAccepted}
use Rattle.chain.specs.LedgerSpec.BuilderSpec.declared.fault.BuildFault.{BuildFault}
use Rattle.chain.specs.LedgerSpec.BuilderSpec.Requests.{StepRequest, ClaimRequest, request, claim_request}
use Rattle.chain.specs.LedgerSpec.BuilderSpec.Built.{build_answer}
use Rattle.chain.specs.LedgerSpec.BuilderSpec.Parts.{hinders_step, layout_step}
use Rattle.chain.specs.LedgerSpec.BuilderSpec.Claims.{hinders_claim, layout_claim}
use Rattle.uses.specs.Uses.{called, thread_ask, thread_look, at_tick, step_asked, IsStepped, after_step, OnlyLooked, claim_asked, IsClaimed, after_claim}
use Rattle.uses.proofs.SteppedLemmas.{stepped, after_stepped, claimed, after_claimed, not_built}

-- what a builder answers to a step
abbrev pub step_answer : Look → StepRequest → Result Tx BuildFault
step_answer l r = build_answer (hinders_step l r) (layout_step l r)

abbrev pub claim_answer : ClaimRequest → Result Tx BuildFault
claim_answer r = build_answer (hinders_claim r) (layout_claim r)

-- the request and the look of a step are those of its clauses
as_asked : (c : Course) (start : OutputRef) (inputs : List Input) (signers : List (List ℕ)) (offered : List Unspent) (change : List ℕ) (now : Interval) (ask : Ask) (l : Look) (answer : Result Tx BuildFault) →
    now ≡ at_tick c → offered ≡ [] → ask ≡ thread_ask start → l ≡ look (world c) ask → step_answer l (request now inputs signers offered change) ≡ answer → step_answer (thread_look c start) (step_asked c inputs signers change) ≡ answer
as_asked c start inputs signers offered change now ask l answer n o a k b =
    sym
    (ap (λ (us : List Unspent). step_answer l (request now inputs signers us change)) o
    ∙ ap (λ (i : Interval). step_answer l (request i inputs signers [] change)) n
    ∙ ap (λ (x : Look). step_answer x (step_asked c inputs signers change)) (k ∙ ap (look (world c)) a))
    ∙ b

pub stepped_by : (c looked : Course) (seat : ℕ) (start : OutputRef) (inputs : List Input) (signers : List (List ℕ)) (offered : List Unspent) (change : List ℕ) (now : Interval) (ask : Ask) (l : Look) (tx : Tx) (reply : Reply) →
    now ≡ at_tick c → offered ≡ [] → ask ≡ thread_ask start → l ≡ look (world c) ask → looked ≡ called c seat (on.Look ask) → BuildsAreAccepted c → step_answer l (request now inputs signers offered change) ≡ Ok tx → TxFits tx →
    reply ≡ reply_to (world looked) (on.Submit tx) → IsStepped c start (step_asked c inputs signers change) reply
stepped_by c looked seat start inputs signers offered change now ask l tx reply n o a k m second b fits h =
    stepped c seat start inputs signers change tx reply second (as_asked c start inputs signers offered change now ask l (Ok tx) n o a k b) fits
    (h ∙ ap (λ (x : Course). reply_to (world x) (on.Submit tx)) (m ∙ ap (λ (x : Ask). called c seat (on.Look x)) a))

pub after_by : (c looked new : Course) (seat : ℕ) (start : OutputRef) (inputs : List Input) (signers : List (List ℕ)) (offered : List Unspent) (change : List ℕ) (now : Interval) (ask : Ask) (l : Look) (tx : Tx) →
    now ≡ at_tick c → offered ≡ [] → ask ≡ thread_ask start → l ≡ look (world c) ask → looked ≡ called c seat (on.Look ask) → step_answer l (request now inputs signers offered change) ≡ Ok tx →
    new ≡ called looked seat (on.Submit tx) → new ≡ after_step c seat start (step_asked c inputs signers change)
after_by c looked new seat start inputs signers offered change now ask l tx n o a k m b h =
    after_stepped c new seat start (step_asked c inputs signers change) tx (as_asked c start inputs signers offered change now ask l (Ok tx) n o a k b)
    (h ∙ ap (λ (x : Course). called x seat (on.Submit tx)) (m ∙ ap (λ (x : Ask). called c seat (on.Look x)) a))

-- where the step isn't submitted after the look, just the look is left
pub only_looked : {T : Type 0} (r : Result T BuildFault) (c looked new : Course) (seat : ℕ) (start : OutputRef) (ask : Ask) →
    ask ≡ thread_ask start → looked ≡ called c seat (on.Look ask) → new ≡ looked → OnErr r (OnlyLooked c new seat (thread_ask start))
only_looked (Ok x) c looked new seat start ask a m h = tt
only_looked (Err f) c looked new seat start ask a m h = inr (h ∙ m ∙ ap (λ (x : Ask). called c seat (on.Look x)) a)

pub hindered_by : (c : Course) (start : OutputRef) (inputs : List Input) (signers : List (List ℕ)) (offered : List Unspent) (change : List ℕ) (now : Interval) (ask : Ask) (l : Look) (fault : BuildFault) →
    now ≡ at_tick c → offered ≡ [] → ask ≡ thread_ask start → l ≡ look (world c) ask → step_answer l (request now inputs signers offered change) ≡ Err fault →
    hinders_step (thread_look c start) (step_asked c inputs signers change) ≡ Some fault
hindered_by c start inputs signers offered change now ask l fault n o a k b =
    not_built (hinders_step (thread_look c start) (step_asked c inputs signers change)) (layout_step (thread_look c start) (step_asked c inputs signers change)) fault
    (as_asked c start inputs signers offered change now ask l (Err fault) n o a k b)

claim_as_asked : (c : Course) (payouts : List Unspent) (signers : List (List ℕ)) (offered : List Unspent) (to : List ℕ) (now : Interval) (answer : Result Tx BuildFault) →
    now ≡ at_tick c → claim_answer (claim_request payouts now signers offered to to) ≡ answer → claim_answer (claim_asked c payouts signers offered to) ≡ answer
claim_as_asked c payouts signers offered to now answer n b = sym (ap (λ (i : Interval). claim_answer (claim_request payouts i signers offered to to)) n) ∙ b

pub claimed_by : (c : Course) (payouts : List Unspent) (signers : List (List ℕ)) (offered : List Unspent) (to : List ℕ) (now : Interval) (tx : Tx) (reply : Reply) →
    now ≡ at_tick c → BuildsAreAccepted c → claim_answer (claim_request payouts now signers offered to to) ≡ Ok tx → TxFits tx → reply ≡ reply_to (world c) (on.Submit tx) → IsClaimed c (claim_asked c payouts signers offered to) reply
claimed_by c payouts signers offered to now tx reply n second b fits h = claimed c payouts signers offered to tx reply second (claim_as_asked c payouts signers offered to now (Ok tx) n b) fits h

pub after_claimed_by : (c new : Course) (seat : ℕ) (payouts : List Unspent) (signers : List (List ℕ)) (offered : List Unspent) (to : List ℕ) (now : Interval) (tx : Tx) →
    now ≡ at_tick c → claim_answer (claim_request payouts now signers offered to to) ≡ Ok tx → new ≡ called c seat (on.Submit tx) → new ≡ after_claim c seat (claim_asked c payouts signers offered to)
after_claimed_by c new seat payouts signers offered to now tx n b h = after_claimed c new seat (claim_asked c payouts signers offered to) tx (claim_as_asked c payouts signers offered to now (Ok tx) n b) h

pub claim_hindered_by : (c : Course) (payouts : List Unspent) (signers : List (List ℕ)) (offered : List Unspent) (to : List ℕ) (now : Interval) (fault : BuildFault) →
    now ≡ at_tick c → claim_answer (claim_request payouts now signers offered to to) ≡ Err fault → hinders_claim (claim_asked c payouts signers offered to) ≡ Some fault
claim_hindered_by c payouts signers offered to now fault n b = not_built (hinders_claim (claim_asked c payouts signers offered to)) (layout_claim (claim_asked c payouts signers offered to)) fault (claim_as_asked c payouts signers offered to now (Err fault) n b)
