-- Seats, receipts, and how they stand in one history.
use Rattle.std.specs.Prelude.{◌≡◌, ℕ, ◌+◌, ◌≤◌, ◌==◌, List, [], ◌∷◌, ◌++◌, filter, length, map, Some, slice_get}
use Rattle.ledger.specs.declared.call.Call.{Call}
use Rattle.ledger.specs.declared.call.Reply.{Reply}
use Rattle.ledger.specs.declared.call.Entry.{Entry}
use Rattle.chain_index.specs.LedgerSpec.Calls.{reply_to}
use Rattle.chain_index.specs.LedgerSpec.Legal.{IsLegal}
use Rattle.chain_index.specs.LedgerSpec.Replay.{Course, world}
use Rattle.hub.specs.declared.answer.Answer.{Answer}
use Rattle.hub.specs.Session.{Opened}

-- a seat: its number, and its answered calls in order
pub record SeatRecord : Type 0 where
  pub number : ℕ
  pub answers : List Answer

abbrev pub seat_record : ℕ → List Answer → SeatRecord
seat_record n answers = record { number = n; answers = answers }

-- a receipt: the place of an entry in the history, and what it was told of it
pub record ReceiptRecord : Type 0 where
  pub entry : ℕ
  pub seat : ℕ
  pub number : ℕ
  pub reply : Reply

-- what a seat keeps of an answered call, by its receipt
abbrev pub answer_of : Call → ReceiptRecord → Answer
answer_of call r = record { place = r.entry; number = r.number; call = call; reply = r.reply }

-- A REPLY OF ITS CALL: there was a legal history over what the session began with after which the table of calls gives this reply
pub record IsReply (session : Opened) (call : Call) (reply : Reply) : Type 0 where
  pub past : Course
  pub start : (past.genesis ≡ session.genesis) × (past.first_tick ≡ session.first_tick)
  pub legal : IsLegal past
  pub told : reply ≡ reply_to (world past) call

-- TOLD: a call was answered: the seat's list has one answer more, the one that the receipt names, which is of this seat; and the reply is of the call
pub record WasTold (session : Opened) (before : SeatRecord) (call : Call) (receipt : ReceiptRecord) (now : SeatRecord) : Type 0 where
  pub answer : now ≡ seat_record before.number (before.answers ++ answer_of call receipt ∷ [])
  pub seat : receipt.seat ≡ before.number
  pub reply : IsReply session call receipt.reply

-- ---- in a history

-- the entry that an answer of a seat tells of
abbrev pub entry_told : ℕ → Answer → Entry
entry_told seat a = record { seat = seat; number = a.number; call = a.call; reply = a.reply }

-- the entries that a seat was told of
abbrev pub entries_told : SeatRecord → List Entry
entries_told s = map (entry_told s.number) s.answers

-- the entries of one seat, in order
abbrev pub by_seat : ℕ → List Entry → List Entry
by_seat seat entries = filter (λ e. e.seat == seat) entries

-- each answer's entry stands at its place
abbrev pub Stand : List Entry → ℕ → List Answer → Type 0
Stand entries seat [] = Unit {0}
Stand entries seat (a ∷ rest) = (slice_get entries a.place ≡ Some (entry_told seat a)) × Stand entries seat rest

-- the places rise, from low on
abbrev pub Rise : ℕ → List Answer → Type 0
Rise low [] = Unit {0}
Rise low (a ∷ rest) = (low ≤ a.place) × Rise (a.place + 1) rest

-- the answers' numbers count from k on
abbrev pub Count : ℕ → List Answer → Type 0
Count k [] = Unit {0}
Count k (a ∷ rest) = (a.number ≡ k) × Count (k + 1) rest

-- what a receipt says stands at its place
pub record Stands (entries : List Entry) (r : ReceiptRecord) (e : Entry) : Type 0 where
  pub place : slice_get entries r.entry ≡ Some e
  pub seat : e.seat ≡ r.seat
  pub number : e.number ≡ r.number
  pub reply : e.reply ≡ r.reply

-- ---- all seats

-- numbered from k on
abbrev pub AreNumbered : ℕ → List SeatRecord → Type 0
AreNumbered k [] = Unit {0}
AreNumbered k (s ∷ ss) = (s.number ≡ k) × AreNumbered (k + 1) ss

-- how many calls were answered
abbrev pub answered : List SeatRecord → ℕ
answered [] = 0
answered (s ∷ ss) = length s.answers + answered ss

-- HEARD: of each seat, the history has just the entries that it was told of, in order, each at the place that it was told; the places rise
-- and the numbers count
pub record IsHeard (entries : List Entry) (i : ℕ) (s : SeatRecord) : Type 0 where
  pub list : entries_told s ≡ by_seat i entries
  pub places : Stand entries i s.answers
  pub rise : Rise 0 s.answers
  pub numbers : Count 0 s.answers

abbrev pub AreHeard : List Entry → List SeatRecord → Type 0
AreHeard entries seats = (i : ℕ) (s : SeatRecord) → slice_get seats i ≡ Some s → IsHeard entries i s
