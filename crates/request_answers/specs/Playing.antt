-- What a play is answered.
use Rattle.std.specs.Prelude.{◌≡◌, ℕ, List, [], ◌++◌, Result, Ok, Err, codes}
use Rattle.serde_json.specs.Data.{Data}
use Rattle.refusal_objects.specs.Objects.{named, refused_object}
use Rattle.request_reasons.specs.RequestParts.Answered.{begun, listed, ok_answer}
use Rattle.request_answers.specs.declared.player.PlayAnswer.{PlayAnswer}
use Rattle.request_answers.specs.declared.player.PlayAnswer.TheVariants.{Told, Refused}

-- the lines that tell of a play, or the members of its refusal and of what explains it
abbrev pub PlayTold : Type 0
PlayTold = Result (List ℕ) (List ℕ × List ℕ)

abbrev pub answer_seen : PlayAnswer → PlayTold
answer_seen (Told lines) = Ok lines.items
answer_seen (Refused members told) = Err (members.items, told.items)

-- what may be told of what stands at `play`
abbrev pub Plays : Type 1
Plays = Data → PlayTold → Type 0

-- nobody plays
abbrev pub no_play : Data → PlayTold → Type 0
no_play body told = told ≡ Err (named (codes "play") (codes "Unsupported"), [])

-- the lines as a list, or why there are none
abbrev pub played_answer : List ℕ → PlayTold → List ℕ
played_answer id (Ok lines) = ok_answer id (listed lines)
played_answer id (Err refused) = begun id ++ (codes ",\"refused\":" ++ (refused_object refused.0 refused.1 ++ codes "}\n"))

-- an answer under an id to what is told so
unfoldable pub AnswersPlay : (PlayTold → Type 0) → List ℕ → List ℕ → Type 0
AnswersPlay Tells id text = (told : PlayTold) × Tells told × (text ≡ played_answer id told)
