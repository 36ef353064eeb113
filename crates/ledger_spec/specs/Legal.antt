-- Which histories are legal: what ties entries to the table of calls.
use Rattle.std.specs.Prelude.{◌≡◌, ℕ, [], ◌∷◌, ◌++◌, take, slice_get, Some}
use Rattle.builder_spec.specs.Ledger.declared.call.Call.{Call}
use Rattle.builder_spec.specs.Ledger.declared.call.Entry.{Entry}
use Rattle.ledger_spec.specs.Replay.{Course, count_of, world}
use Rattle.ledger_spec.specs.Calls.{reply_to}

-- the course before its n-th entry
abbrev pub before_entry : Course → ℕ → Course
before_entry c n = record c { entries = take n c.entries }

-- an entry after a course: its number counts the earlier entries of its seat, and its reply is the one of the table
pub record Follows (c : Course) (e : Entry) : Type 0 where
  pub number : e.number ≡ count_of e.seat c.entries
  pub reply : e.reply ≡ reply_to (world c) e.call

-- LEGAL: each entry follows those before it
abbrev pub IsLegal : Course → Type 0
IsLegal c = (n : ℕ) (e : Entry) → slice_get c.entries n ≡ Some e → Follows (before_entry c n) e

-- the course with one more entry
abbrev pub with_entry : Course → Entry → Course
with_entry c e = record c { entries = c.entries ++ e ∷ [] }

-- the entry of a call
abbrev pub entry_of : Course → ℕ → Call → Entry
entry_of c seat call = record { seat = seat; number = count_of seat c.entries; call = call; reply = reply_to (world c) call }
