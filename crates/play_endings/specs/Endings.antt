-- HOW EACH INTENT OF A PLAN ENDED, by the entries of the plan's seat, in order, and by what its party left out.
use Rattle.std.specs.Prelude.{ℕ, zero, suc, ◌+◌, ◌-◌, ◌==◌, nat_lt, Bool, true, false, ◌&&◌, if◌then◌else◌, List, [], ◌∷◌, ◌++◌, length, slice_get, Option, Some, None}
use Rattle.contract.specs.declared.input.Input.{Input}
use Rattle.ledger.specs.EutxoTypes.declared.fault.TxFault.{TxFault}
use Rattle.ledger.specs.EutxoTypes.declared.fault.TxFault.TheVariants.{NotUnspent}
use Rattle.ledger.specs.EutxoTypes.declared.verdict.Verdict.{Verdict}
use Rattle.ledger.specs.EutxoTypes.declared.verdict.Verdict.TheVariants as verdicts
use Rattle.ledger.specs.declared.call.Entry.{Entry}
use Rattle.ledger.specs.declared.call.Reply.{Reply}
use Rattle.ledger.specs.declared.call.Reply.TheVariants as replies
use Rattle.ledger.specs.declared.call.Ticketed.{Ticketed}
use Rattle.play_objects.specs.Plans.declared.intent.Intent.{Intent}
use Rattle.play_objects.specs.Plans.declared.intent.Intent.TheVariants.{Claim}
use Rattle.play_endings.specs.declared.ending.Ending.{Ending}
use Rattle.play_endings.specs.declared.ending.LeftIntent.{LeftIntent}
use Rattle.play_endings.specs.declared.ending.Ending.TheVariants.{Done, NotBuilt, NothingToClaim, Refused, GivenUp, PoolFull, RefusedInRound, Pooled, Backward, Stopped}
use Rattle.play_endings.specs.declared.taken.Taken.{Taken}
use Rattle.play_endings.specs.declared.walk.Next.{Next}
use Rattle.play_endings.specs.declared.walk.Next.TheVariants.{On, Again, Ends}

-- ---- the entries of a seat, with their places in the history

pub record PlacedEntry : Type 0 where
  pub place : ℕ
  pub entry : Entry

-- the first of these entries at place n
abbrev pub entries_of : ℕ → ℕ → List Entry → List PlacedEntry
entries_of seat n [] = []
entries_of seat n (e ∷ es) = if e.seat == seat then record { place = n; entry = e } ∷ entries_of seat (n + 1) es else entries_of seat (n + 1) es

-- ---- what rounds took out of the pool, in order

abbrev pub is_accepted : Verdict → Bool
is_accepted verdicts.Accepted = true
is_accepted (verdicts.Refused fault) = false

abbrev pub taken_by : ℕ → List Ticketed → List Taken
taken_by n [] = []
taken_by n (t ∷ ts) = record { ticket = t.ticket; place = n; accepted = is_accepted t.verdict } ∷ taken_by n ts

abbrev pub taken_in_reply : ℕ → Reply → List Taken
taken_in_reply n (replies.Round ts) = taken_by n ts
taken_in_reply n reply = []

abbrev pub taken_in : ℕ → List Entry → List Taken
taken_in n [] = []
taken_in n (e ∷ es) = taken_in_reply n e.reply ++ taken_in (n + 1) es

-- ---- of an intent: how it ended, and the seat's entries from its last turn on, and behind its own

pub record EndedAt : Type 0 where
  pub ending : Ending
  pub turn : List PlacedEntry
  pub rest : List PlacedEntry

-- what a reply makes of an intent, with so many tries left: it goes on, begins another turn, or ends. Another turn begins where another was faster
abbrev pub refused_at : ℕ → ℕ → TxFault → Next
refused_at tries n (NotUnspent i) = if tries == 0 then Ends (GivenUp n) else Again
refused_at tries n fault = Ends (Refused n)

abbrev pub next_at : ℕ → ℕ → Reply → Next
next_at tries n (replies.Accepted id) = Ends (Done n)
next_at tries n (replies.Refused fault) = refused_at tries n fault
next_at tries n (replies.Ticket ticket) = Ends (Pooled ticket)
next_at tries n replies.Full = Ends (PoolFull n)
next_at tries n (replies.Round tickets) = Ends (Done n)
next_at tries n replies.Advanced = Ends (Done n)
next_at tries n replies.Backward = Ends (Backward n)
next_at tries n reply = On

abbrev pub going_on : Next → List PlacedEntry → List PlacedEntry → EndedAt → EndedAt → EndedAt
going_on On turn es on again = on
going_on Again turn es on again = again
going_on (Ends ending) turn es on again = record { ending = ending; turn = turn; rest = es }

-- along the seat's entries: where they end before the intent does, the plan stopped
abbrev pub handed : ℕ → List PlacedEntry → List PlacedEntry → EndedAt
handed tries turn [] = record { ending = Stopped; turn = turn; rest = [] }
handed tries turn (e ∷ es) = going_on (next_at tries e.place e.entry.reply) turn es (handed tries turn es) (handed (tries - 1) es es)

-- an intent is tried once, and 16 times more
abbrev pub TRIES : ℕ
TRIES = 16

-- the entries behind a place
abbrev pub behind : ℕ → List PlacedEntry → List PlacedEntry
behind n [] = []
behind n (e ∷ es) = if nat_lt n e.place then e ∷ es else behind n es

abbrev pub behind_looks : Option ℕ → List PlacedEntry → List PlacedEntry
behind_looks None own = own
behind_looks (Some n) own = behind n own

-- what was left out: a claim that was shown no payout asks for nothing
abbrev pub left_ending : Intent ℕ ℕ → Bool → Ending
left_ending (Claim contract role interval) no_thread = if no_thread then NothingToClaim else NotBuilt
left_ending intent no_thread = NotBuilt

abbrev pub ending_of : Intent ℕ ℕ → Option LeftIntent → List PlacedEntry → EndedAt
ending_of intent None own = handed TRIES own own
ending_of intent (Some l) own = record { ending = left_ending intent l.no_thread; turn = own; rest = behind_looks l.last_look own }

-- what was pooled ended by what rounds took
abbrev pub taken_ending : Option Taken → ℕ → Ending
taken_ending None ticket = Pooled ticket
taken_ending (Some t) ticket = if t.ticket == ticket then (if t.accepted then Done t.place else RefusedInRound t.place ticket) else Pooled ticket

abbrev pub settled_ending : List Taken → Ending → Ending
settled_ending taken (Pooled ticket) = taken_ending (slice_get taken ticket) ticket
settled_ending taken ending = ending

abbrev pub settled : List Taken → EndedAt → EndedAt
settled taken e = record { ending = settled_ending taken e.ending; turn = e.turn; rest = e.rest }

-- ---- of all intents of a plan, the first of these at place n; what was left out stands in their order

abbrev pub here : ℕ → List LeftIntent → Option LeftIntent
here n [] = None
here n (l ∷ ls) = if l.intent == n then Some l else None

abbrev pub others : ℕ → List LeftIntent → List LeftIntent
others n [] = []
others n (l ∷ ls) = if l.intent == n then ls else l ∷ ls

abbrev pub endings : List Taken → ℕ → List (Intent ℕ ℕ) → List LeftIntent → List PlacedEntry → List EndedAt
endings taken n [] ls own = []
endings taken n (x ∷ xs) ls own =
    let e = ending_of x (here n ls) own in settled taken e ∷ endings taken (n + 1) xs (others n ls) e.rest

-- ---- whether all went well

abbrev pub is_done : Ending → Bool
is_done (Done n) = true
is_done ending = false

abbrev pub all_done : List EndedAt → Bool
all_done [] = true
all_done (e ∷ es) = is_done e.ending && all_done es
