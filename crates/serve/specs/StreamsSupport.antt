-- How far a stream has been answered.
use Rattle.std.specs.Prelude.{◌≡◌, ℕ, true, List, [], ◌∷◌, ◌++◌, length, Some, None, Result, Ok, Err}
use Rattle.std.specs.declared.option.Option.{Option}
use Rattle.std.specs.declared.vec.Vec.{Vec}
use Rattle.std.specs.declared.alloc.Global.{Global}
use Rattle.std.specs.declared.alloc.AllocError.{AllocError}
use Rattle.std.specs.Io.KnownBytes.{Appends}
use Rattle.request_answers.specs.RequestReasons.Definitions.declared.definition.Definition.{Definition}
use Rattle.lines_in.specs.Held.{Held, come}
use Rattle.lines_in.specs.Lines.{Line, lines_of}
use Rattle.request_answers.specs.MarloweTrace.MarloweRun.declared.readable.Readable.{Readable}
use Rattle.request_answers.specs.Playing.{Plays}
use Rattle.serve.specs.Streams.{IsServedSoFar, Serves, no_memory}

-- with a text behind what waits, some bytes have gone out, and the others wait
abbrev pub Adds : Option (List ℕ) → List ℕ → Option (List ℕ) → List ℕ → List ℕ → Type 0
Adds old waited new waits text = (out : List ℕ) × Appends old new out × (waited ++ text ≡ out ++ waits)

-- of these answers some bytes have gone out, and the others wait
abbrev pub Sent : Option (List ℕ) → Option (List ℕ) → List ℕ → List ℕ → Type 0
Sent begun now waits answers = (out : List ℕ) × Appends begun now out × (answers ≡ out ++ waits)

-- these lines have been given of known bytes, and the others are to come
abbrev pub StillCome : Option (List ℕ) → Option (List ℕ) → Held → List Line → Type 0
StillCome None left held done = Unit {0}
StillCome (Some bytes) left held done = (rest : List ℕ) × (left ≡ Some rest) × (held.has_ended ≡ true → rest ≡ []) × (lines_of bytes ≡ done ++ come held rest)

-- so many lines have been answered, and these names stand
pub record Going (plays : Plays) (r : Readable) (first begun left now : Option (List ℕ)) (held : Held) (defs : List Definition) (number : ℕ) (waits : List ℕ) : Type 0 where
  pub done : List Line
  pub answers : List ℕ
  pub serves : Serves plays r [] 0 done answers defs
  pub count : number ≡ length done
  pub sent : Sent begun now waits answers
  pub to_come : StillCome first left held done

-- the first lines of known bytes have been answered, and no answer waits
abbrev pub Stopped : Plays → Readable → Option (List ℕ) → Option (List ℕ) → Option (List ℕ) → Type 0
Stopped plays r first begun now = (answers : List ℕ) × Appends begun now answers × IsServedSoFar plays r first answers

-- an answer, or that memory was refused
abbrev pub put_text : Result (Vec ℕ Global) AllocError → List ℕ
put_text (Ok text) = text.items
put_text (Err error) = no_memory
