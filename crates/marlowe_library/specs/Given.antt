-- What a caller gets for a request.
use Rattle.std.specs.Prelude.{◌≡◌, ℕ, ℤ, pos, negsuc, Bool, true, false, List, [], ◌++◌, length, drop, nat_le, nat_lt, if◌then◌else◌}
use Rattle.serve.specs.LinesIn.Lines.{longest_line}
use Rattle.serve.specs.MarloweRun.declared.readable.Readable.{Readable}
use Rattle.definitions.specs.declared.definition.Definition.{Definition}
use Rattle.serve.specs.Answers.{IsAnswer, IsTooLongAnswer, Stays}

-- as the commands read without a depth
abbrev pub readable : Bool → Readable
readable texts = record { depth = 127; text_numbers = texts }

abbrev answered_by : Bool → Readable → List Definition → ℕ → List ℕ → List ℕ → List Definition → Type 0
answered_by true r defs number request text after = Stays defs after (IsTooLongAnswer number text)
answered_by false r defs number request text after = IsAnswer r defs number request text after

-- the answer to a request of this number where contracts have names, and the names that stand behind it
abbrev pub IsAnswered : Readable → List Definition → ℕ → List ℕ → List ℕ → List Definition → Type 0
IsAnswered r defs number request text after = answered_by (nat_lt longest_line (length request)) r defs number request text after

-- a text at the beginning of a room where it fits, and else the room as it was
abbrev pub put_in : List ℕ → List ℕ → List ℕ
put_in text room = if nat_le (length text) (length room) then text ++ drop (length text) room else room

-- an answer has this length, and stands in the room where it fits
pub record Told (r : Readable) (defs : List Definition) (request old new : List ℕ) (n : ℕ) (after : List Definition) : Type 0 where
  pub text : List ℕ
  pub is_answer : IsAnswered r defs 1 request text after
  pub bytes : n ≡ length text
  pub stands : new ≡ put_in text old

-- the number that comes back where contracts have names: an answer's length, or -1 for want of memory, when the room and the names stay
abbrev pub TellsIn : Readable → List Definition → List ℕ → List ℕ → List ℕ → ℤ → List Definition → Type 0
TellsIn r defs request old new (pos n) after = Told r defs request old new n after
TellsIn r defs request old new (negsuc n) after = (n ≡ 0) × ((new ≡ old) × (after ≡ defs))

-- .. where none has, and none is kept
abbrev pub Tells : Readable → List ℕ → List ℕ → List ℕ → ℤ → Type 0
Tells r request old new result = (after : List Definition) × TellsIn r [] request old new result after
