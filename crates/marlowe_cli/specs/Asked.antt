-- What a task says of the words of a command line.
use Rattle.std.specs.Prelude.{◌≡◌, ◌≤◌, ◌+◌, ◌&&◌, ℕ, Bool, ℤ, pos, List, [], ◌∷◌, Some, None, Option, bytes_eq, count_by, if◌then◌else◌, option_map, unwrap_or, map, true, false, codes}
use Rattle.std.specs.Str.Parse.{IsNumeral, signed_digits_value, without_leading_sign}
use Rattle.clap.specs.Words.{Row, Text, all_of, first_of, one_of}
use Rattle.marlowe_cli.specs.declared.analyse.AnalyseTask.{AnalyseTask}
use Rattle.marlowe_cli.specs.declared.next.NextTask.{NextTask}
use Rattle.marlowe_cli.specs.declared.play.PlayTask.{PlayTask}
use Rattle.marlowe_cli.specs.declared.run.RunTask.{RunTask}
use Rattle.marlowe_cli.specs.declared.serve.ServeTask.{ServeTask}
use Rattle.marlowe_cli.specs.declared.table.TableTask.{TableTask}
use Rattle.marlowe_cli.specs.declared.task.Task.{Task}
use Rattle.marlowe_cli.specs.declared.task.Task.TheVariants.{Run, Trace, Next, Table, Analyse, Play, Serve}
use Rattle.marlowe_cli.specs.declared.trace.TraceTask.{TraceTask}

-- a flag is set where its text is `true`, and not where that is `false` or there is none
abbrev pub IsFlag : Option Text → Bool → Type 0
IsFlag text flag = (text ≡ Some (codes "true") → flag ≡ true)
    × (text ≡ Some (codes "false") → flag ≡ false)
    × (text ≡ None → flag ≡ false)

-- a time is the number that its text says in decimal digits, maybe behind a sign; there is none where there is no text
abbrev pub IsTime : Option Text → Option ℤ → Type 0
IsTime None time = time ≡ None
IsTime (Some text) time = IsNumeral 10 (without_leading_sign text) × (time ≡ Some (signed_digits_value 10 text))

-- how deep lists and objects may nest: 127 levels, or the number that the text says, from 127 to 4,000
abbrev pub IsDepth : Option Text → ℕ → Type 0
IsDepth None depth = depth ≡ 127
IsDepth (Some text) depth = IsNumeral 10 (without_leading_sign text) × (pos depth ≡ signed_digits_value 10 text) × (127 ≤ depth) × (depth ≤ 4000)

-- JSON, whose refusals have all that is explained, or explanations for people, and not both
abbrev pub AreApart : Bool → Bool → Type 0
AreApart json explain = json && explain ≡ false

-- the words that were given for an argument, in their order
abbrev pub given_for : Text → List Row → List Text
given_for name words = unwrap_or (all_of name words) []

-- the path of standard input
abbrev pub is_input : Text → Bool
is_input path = bytes_eq path (codes "-")

-- how many of these paths are standard input
abbrev pub inputs : List Text → ℕ
inputs paths = count_by is_input paths

-- .. of a path, if there is one
abbrev pub input_if : Option Text → ℕ
input_if None = 0
input_if (Some path) = if is_input path then 1 else 0

-- at most one of these paths is standard input
abbrev pub ReadsOnce : List Text → Option Text → List Text → Type 0
ReadsOnce given state more = inputs given + input_if state + inputs more ≤ 1

-- ---- the tasks: the word that was given for each argument, if one was, and the flags

abbrev pub AsksRun : List Row → RunTask → Type 0
AsksRun words task = (first_of (codes "CONTRACT") words ≡ Some task.contract.now)
    × (first_of (codes "STATE") words ≡ Some task.state.now)
    × (first_of (codes "TX") words ≡ Some task.transaction.now)
    × IsFlag (one_of (codes "json") words) task.json
    × IsDepth (one_of (codes "depth") words) task.depth
    × IsFlag (one_of (codes "text-numbers") words) task.text_numbers
    × IsFlag (one_of (codes "big-as-text") words) task.big_as_text
    × IsFlag (one_of (codes "explain") words) task.explain
    × AreApart task.json task.explain
    × ReadsOnce (task.contract.now ∷ task.state.now ∷ task.transaction.now ∷ []) None []

abbrev pub AsksTrace : List Row → TraceTask → Type 0
AsksTrace words task = (first_of (codes "CONTRACT") words ≡ Some task.contract.now)
    × (given_for (codes "TX") words ≡ map (λ path. path.now) task.transactions.items)
    × (first_of (codes "state") words ≡ option_map (λ path. path.now) task.state)
    × IsFlag (one_of (codes "last") words) task.last
    × IsFlag (one_of (codes "json") words) task.json
    × IsDepth (one_of (codes "depth") words) task.depth
    × IsFlag (one_of (codes "text-numbers") words) task.text_numbers
    × IsFlag (one_of (codes "big-as-text") words) task.big_as_text
    × IsFlag (one_of (codes "explain") words) task.explain
    × AreApart task.json task.explain
    × ReadsOnce (task.contract.now ∷ []) (option_map (λ path. path.now) task.state) (map (λ path. path.now) task.transactions.items)

abbrev pub AsksNext : List Row → NextTask → Type 0
AsksNext words task = (first_of (codes "CONTRACT") words ≡ Some task.contract.now)
    × (first_of (codes "STATE") words ≡ option_map (λ path. path.now) task.state)
    × IsTime (one_of (codes "from") words) task.from
    × IsTime (one_of (codes "to") words) task.to
    × (given_for (codes "after") words ≡ map (λ path. path.now) task.after.items)
    × IsFlag (one_of (codes "json") words) task.json
    × IsDepth (one_of (codes "depth") words) task.depth
    × IsFlag (one_of (codes "text-numbers") words) task.text_numbers
    × IsFlag (one_of (codes "explain") words) task.explain
    × AreApart task.json task.explain
    × ReadsOnce (task.contract.now ∷ []) (option_map (λ path. path.now) task.state) (map (λ path. path.now) task.after.items)

abbrev pub AsksTable : List Row → TableTask → Type 0
AsksTable words task = (first_of (codes "CONTRACT") words ≡ Some task.contract.now)
    × IsFlag (one_of (codes "json") words) task.json
    × IsDepth (one_of (codes "depth") words) task.depth
    × IsFlag (one_of (codes "explain") words) task.explain
    × AreApart task.json task.explain

abbrev pub AsksAnalysis : List Row → AnalyseTask → Type 0
AsksAnalysis words task = (first_of (codes "CONTRACT") words ≡ Some task.contract.now)
    × (first_of (codes "STATE") words ≡ option_map (λ path. path.now) task.state)
    × IsFlag (one_of (codes "json") words) task.json
    × IsFlag (one_of (codes "no-runs") words) task.no_runs
    × IsFlag (one_of (codes "all") words) task.all
    × IsFlag (one_of (codes "notes") words) task.notes
    × (first_of (codes "party") words ≡ option_map (λ text. text.now) task.party)
    × IsFlag (one_of (codes "strict") words) task.strict
    × IsDepth (one_of (codes "depth") words) task.depth
    × IsFlag (one_of (codes "text-numbers") words) task.text_numbers
    × IsFlag (one_of (codes "explain") words) task.explain
    × AreApart task.json task.explain
    × ReadsOnce (task.contract.now ∷ []) (option_map (λ path. path.now) task.state) []

abbrev pub AsksPlay : List Row → PlayTask → Type 0
AsksPlay words task = (first_of (codes "SCENARIO") words ≡ Some task.scenario.now)
    × IsFlag (one_of (codes "one") words) task.one
    × IsFlag (one_of (codes "files") words) task.files
    × IsFlag (one_of (codes "strict") words) task.strict
    × (given_for (codes "expect-open") words ≡ map (λ name. name.now) task.kept_open.items)
    × IsFlag (one_of (codes "json") words) task.json
    × IsDepth (one_of (codes "depth") words) task.depth
    × IsFlag (one_of (codes "big-as-text") words) task.big_as_text
    × IsFlag (one_of (codes "explain") words) task.explain
    × AreApart task.json task.explain

abbrev pub AsksStream : List Row → ServeTask → Type 0
AsksStream words task = IsDepth (one_of (codes "depth") words) task.depth
    × IsFlag (one_of (codes "text-numbers") words) task.text_numbers

-- a task is what is asked, by the command's name and its words
abbrev pub IsAsked : Option (Text × List Row) → Task → Type 0
IsAsked None task = ⊥
IsAsked (Some (name, words)) (Run task) = (name ≡ codes "run") × AsksRun words task
IsAsked (Some (name, words)) (Trace task) = (name ≡ codes "trace") × AsksTrace words task
IsAsked (Some (name, words)) (Next task) = (name ≡ codes "next") × AsksNext words task
IsAsked (Some (name, words)) (Table task) = (name ≡ codes "table") × AsksTable words task
IsAsked (Some (name, words)) (Analyse task) = (name ≡ codes "analyse") × AsksAnalysis words task
IsAsked (Some (name, words)) (Play task) = (name ≡ codes "play") × AsksPlay words task
IsAsked (Some (name, words)) (Serve task) = (name ≡ codes "serve") × AsksStream words task
