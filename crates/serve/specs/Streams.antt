-- What a whole stream is answered.
use Rattle.std.specs.Prelude.{◌≡◌, ◌⊎◌, ℕ, suc, List, [], ◌∷◌, ◌++◌, codes, Some, None}
use Rattle.std.specs.declared.option.Option.{Option}
use Rattle.request_answers.specs.RequestReasons.Definitions.declared.definition.Definition.{Definition}
use Rattle.lines_in.specs.Lines.{Line, lines_of, text, too_long}
use Rattle.request_answers.specs.MarloweTrace.MarloweRun.declared.readable.Readable.{Readable}
use Rattle.serve.specs.Answers.{IsAnswerWith, IsTooLongAnswer}
use Rattle.request_answers.specs.Playing.{Plays}

-- the answer where memory is refused
abbrev pub no_memory : List ℕ
no_memory = codes "{\"id\":null,\"refused\":{\"of\":\"memory\",\"name\":\"Memory\"}}\n"

-- the answer to a line of this number, where plays are told so, and the names that stand behind it
abbrev pub IsLineAnswered : Plays → Readable → List Definition → ℕ → Line → List ℕ → List Definition → Type 0
IsLineAnswered plays r defs number (text line) answer after = IsAnswerWith plays r defs number line answer after
IsLineAnswered plays r defs number too_long answer after = IsTooLongAnswer number answer × (after ≡ defs)

-- .. or that memory was refused, for which nothing is changed
abbrev pub Answered : Plays → Readable → List Definition → ℕ → Line → List ℕ → List Definition → Type 0
Answered plays r defs number line answer after = IsLineAnswered plays r defs number line answer after ⊎ (answer ≡ no_memory) × (after ≡ defs)

-- the answers to lines, of which so many came before, one behind the other; each where those names stand that the one before left
abbrev pub Serves : Plays → Readable → List Definition → ℕ → List Line → List ℕ → List Definition → Type 0
Serves plays r defs before [] answers after = (answers ≡ []) × (after ≡ defs)
Serves plays r defs before (line ∷ lines) answers after =
    (answer : List ℕ) × (mid : List Definition) × (rest : List ℕ) × Answered plays r defs (suc before) line answer mid × Serves plays r mid (suc before) lines rest after × (answers ≡ answer ++ rest)

-- bytes that are known have been answered to their end
abbrev pub IsServed : Plays → Readable → Option (List ℕ) → List ℕ → Type 0
IsServed plays r None answers = Unit {0}
IsServed plays r (Some bytes) answers = (after : List Definition) × Serves plays r [] 0 (lines_of bytes) answers after

-- .. or the first lines of them
abbrev pub IsServedSoFar : Plays → Readable → Option (List ℕ) → List ℕ → Type 0
IsServedSoFar plays r None answers = Unit {0}
IsServedSoFar plays r (Some bytes) answers = (done more : List Line) × (after : List Definition) × (lines_of bytes ≡ done ++ more) × Serves plays r [] 0 done answers after
