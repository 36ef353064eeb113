-- No reader needs this file: what holds while a party plays, the invariants behind the clauses.
use Rattle.std.specs.Prelude.{◌≡◌, ℕ, ◌<◌, ◌⊎◌, if◌then◌else◌, List, [], ◌∷◌, ◌++◌, map, length, Option, Some, None, Ok, Err}
use Rattle.hub.specs.EutxoTypes.declared.tx.Tx.{Tx}
use Rattle.hub.specs.Ledger.declared.ask.Ask.{Ask}
use Rattle.hub.specs.Ledger.declared.call.Call.{Call}
use Rattle.hub.specs.Ledger.declared.call.Call.TheVariants as on
use Rattle.hub.specs.Ledger.declared.call.Reply.{Reply}
use Rattle.hub.specs.Ledger.declared.call.Reply.TheVariants as replies
use Rattle.hub.specs.Ledger.declared.look.Look.{Look}
use Rattle.hub.specs.LedgerSpec.BuilderSpec.declared.fault.BuildFault.{BuildFault}
use Rattle.plans.specs.declared.intent.Intent.TheVariants.{Step, Steps, Claim, Round, Advance}
use Rattle.hub.specs.declared.answer.Answer.{Answer}
use Rattle.hub.specs.Seats.{SeatRecord, ReceiptRecord, seat_record}
use Rattle.parties.specs.declared.acts.Act.{Act}
use Rattle.parties.specs.declared.acts.Act.TheVariants as acts
use Rattle.parties.specs.Plays.{PlayedIntent, PlayedPlan, made_of, AreOf, IsWithin, receipt_of}

-- how it is handed in
abbrev pub handed : PlayedIntent → Tx → Call
handed (Step thread inputs interval pooled) tx = if pooled then on.Enqueue tx else on.Submit tx
handed (Steps steps interval pooled) tx = if pooled then on.Enqueue tx else on.Submit tx
handed (Claim currency role interval) tx = on.Submit tx
handed (Round count workers) tx = on.Submit tx
handed (Advance tick) tx = on.Submit tx

-- what receipts tell
abbrev pub replies_of : List ReceiptRecord → List Reply
replies_of receipts = map (λ r. r.reply) receipts

-- these receipts show looks
abbrev pub AreShown : List ReceiptRecord → Type 0
AreShown receipts = (looks : List Look) × (replies_of receipts ≡ map replies.Look looks)

-- a call hands in what is made of the looks that these receipts show
pub record HandsIn (plan : PlayedPlan) (intent : PlayedIntent) (shown : List ReceiptRecord) (call : Call) : Type 0 where
  pub looks : List Look
  pub told : replies_of shown ≡ map replies.Look looks
  pub tx : Tx
  pub made : made_of plan intent looks ≡ Some (Ok tx)
  pub call_is : call ≡ handed intent tx

-- nothing is handed in: the builder refuses the intent by the looks that these receipts show
pub record LeavesOut (plan : PlayedPlan) (intent : PlayedIntent) (shown : List ReceiptRecord) (fault : BuildFault) : Type 0 where
  pub looks : List Look
  pub told : replies_of shown ≡ map replies.Look looks
  pub made : made_of plan intent looks ≡ Some (Err fault)

-- the call that an act makes
abbrev pub call_of : Act → Call
call_of (acts.Call call) = call
call_of (acts.Admit checked) = on.Submit checked.tx
call_of (acts.Round count workers) = on.Round count

-- the party may call
abbrev pub HasRoom : Option ℕ → SeatRecord → Type 0
HasRoom None s = Unit {0}
HasRoom (Some n) s = length s.answers < n

-- where a call was a Look, its reply shows a look
abbrev pub ShowsALook : Call → Reply → Type 0
ShowsALook (on.Look ask) reply = (look : Look) × (reply ≡ replies.Look look)
ShowsALook call reply = Unit {0}

-- one call was answered, and its receipt kept
pub record WasNoted (plan : PlayedPlan) (call : Call) (old new : SeatRecord) (before now : List ReceiptRecord) : Type 0 where
  pub answer : Answer
  pub call_is : answer.call ≡ call
  pub list : new ≡ seat_record old.number (old.answers ++ answer ∷ [])
  pub receipts : now ≡ before ++ receipt_of old.number answer ∷ []
  pub within : IsWithin plan.stop_after old new
  pub shows : ShowsALook call answer.reply

-- .. or none, since the party had stopped
abbrev pub AtMostNoted : PlayedPlan → Call → SeatRecord → SeatRecord → List ReceiptRecord → List ReceiptRecord → Type 0
AtMostNoted plan call old new before now = ((new ≡ old) × (now ≡ before)) ⊎ WasNoted plan call old new before now

-- the seat went on by the plan
pub record Went (plan : PlayedPlan) (old new : SeatRecord) : Type 0 where
  pub more : List Answer
  pub list : new ≡ seat_record old.number (old.answers ++ more)
  pub played : AreOf plan [] more
  pub within : IsWithin plan.stop_after old new

-- .. and its receipts were kept
pub record WentNoted (plan : PlayedPlan) (old new : SeatRecord) (before now : List ReceiptRecord) : Type 0 where
  pub went : Went plan old new
  pub receipts : now ≡ before ++ map (receipt_of old.number) went.more

-- the seat went on by these looks alone
pub record WasShown (plan : PlayedPlan) (asks : List Ask) (old new : SeatRecord) (before now : List ReceiptRecord) : Type 0 where
  pub gone : WentNoted plan old new before now
  pub calls : map (λ (a : Answer). a.call) gone.went.more ≡ map on.Look asks
  pub looks : List Look
  pub told : map (λ (a : Answer). a.reply) gone.went.more ≡ map replies.Look looks
