-- The command line: its commands and their arguments, as a command of the library that reads the words.
use Rattle.std.specs.Prelude.{◌≡◌, ℕ, IfOk, List, [], ◌∷◌, Some, fold, negsuc, pos, true, false, codes}
use Rattle.clap.specs.Lexer.{usize_max}
use Rattle.clap.specs.Words.{App, Rule, Text, app_of, new_app, new_rule, rule_of, with_rule, with_subcommand}
use Rattle.clap.specs.declared.Command.{Command}
use Rattle.clap.specs.declared.Command.TheViews.{out-Command}
use Rattle.clap.specs.declared.builder.action.ArgAction.TheVariants.{Append, SetTrue}
use Rattle.clap.specs.declared.builder.arg.Arg.{Arg}
use Rattle.clap.specs.declared.builder.value_parser.ValueParser.TheVariants.{Signed}
use Rattle.marlowe_usage.specs.declared.draft.Draft.{Draft}

-- ---- the kinds of arguments

-- an argument that has to be given, by its place
abbrev pub given : Text → Rule
given name = record (new_rule name) { required = true }

-- .. once or more, by the last place
abbrev pub several : Text → Rule
several name = record (given name) { range = Some (record { start_inclusive = 1; end_inclusive = usize_max }) }

-- an argument by its place, which may be left out
abbrev pub optional : Text → Rule
optional name = new_rule name

-- a flag `--name`, which may be left out
abbrev pub flag : Text → Rule
flag name = record (new_rule name) { long = Some name; action = Some SetTrue }

-- an option `--name VALUE`, which may be left out
abbrev pub option : Text → Rule
option name = record (new_rule name) { long = Some name; value_names = 1 }

-- .. whose value is a time: a number of 64 bits
abbrev pub time : Text → Rule
time name = record (option name) { parser = Some (Signed (negsuc 9223372036854775807) (pos 9223372036854775807)) }

-- .. whose value is a number from one to another
abbrev pub number : ℕ → ℕ → Text → Rule
number least most name = record (option name) { parser = Some (Signed (pos least) (pos most)) }

-- .. which may be given again and again, each with one value
abbrev pub options : Text → Rule
options name = record (option name) { action = Some Append }

-- ---- the commands

-- a command of this name with these arguments
abbrev pub command : Text → List Rule → App
command name rules = fold with_rule (new_app name) rules

-- numbers of a state may be texts
abbrev pub text_numbers : Rule
text_numbers = flag (codes "text-numbers")

-- big numbers of outcomes are texts
abbrev pub big_as_text : Rule
big_as_text = flag (codes "big-as-text")

-- lines behind a refusal say where and why
abbrev pub explain : Rule
explain = flag (codes "explain")

-- JSON for tools, a refusal too
abbrev pub json : Rule
json = flag (codes "json")

-- how deep lists and objects may nest
abbrev pub depth : Rule
depth = number 127 4000 (codes "depth")

-- `run CONTRACT STATE TX [--json] [--depth N] [--text-numbers] [--big-as-text] [--explain]`
abbrev pub run_rules : List Rule
run_rules = given (codes "CONTRACT") ∷ given (codes "STATE") ∷ given (codes "TX") ∷ json ∷ depth ∷ text_numbers ∷ big_as_text ∷ explain ∷ []

-- `trace CONTRACT TX.. [--state STATE] [--last] [--json] [--depth N] [--text-numbers] [--big-as-text] [--explain]`
abbrev pub trace_rules : List Rule
trace_rules = given (codes "CONTRACT") ∷ several (codes "TX") ∷ option (codes "state") ∷ flag (codes "last") ∷ json ∷ depth ∷ text_numbers
    ∷ big_as_text ∷ explain ∷ []

-- `next CONTRACT [STATE] [--from T] [--to T] [--after TX].. [--json] [--depth N] [--text-numbers] [--explain]`
abbrev pub next_rules : List Rule
next_rules = given (codes "CONTRACT") ∷ optional (codes "STATE") ∷ time (codes "from") ∷ time (codes "to") ∷ options (codes "after")
    ∷ json ∷ depth ∷ text_numbers ∷ explain ∷ []

-- `table CONTRACT [--json] [--depth N] [--explain]`
abbrev pub table_rules : List Rule
table_rules = given (codes "CONTRACT") ∷ json ∷ depth ∷ explain ∷ []

-- `analyse CONTRACT [STATE] [--json] [--no-runs] [--all] [--notes] [--party P] [--strict] [--depth N] [--text-numbers] [--explain]`
abbrev pub analyse_rules : List Rule
analyse_rules = given (codes "CONTRACT") ∷ optional (codes "STATE") ∷ json ∷ flag (codes "no-runs") ∷ flag (codes "all") ∷ flag (codes "notes")
    ∷ option (codes "party") ∷ flag (codes "strict") ∷ depth ∷ text_numbers ∷ explain ∷ []

-- `play SCENARIO [--one] [--files] [--strict] [--expect-open NAME].. [--json] [--depth N] [--big-as-text] [--explain]`
abbrev pub play_rules : List Rule
play_rules = given (codes "SCENARIO") ∷ flag (codes "one") ∷ flag (codes "files") ∷ flag (codes "strict") ∷ options (codes "expect-open")
    ∷ json ∷ depth ∷ big_as_text ∷ flag (codes "explain") ∷ []

-- `serve [--depth N] [--text-numbers]`
abbrev pub serve_rules : List Rule
serve_rules = depth ∷ text_numbers ∷ []

-- the program without its commands: it has a version and needs a command
abbrev pub program : App
program = record (new_app (codes "marlowe")) {
  top = record (new_app (codes "marlowe")).top { has_version = true; subcommand_required = true; arg_required_else_help = true };
}

-- the commands, in the order in which help lists them
abbrev pub commands : List App
commands = command (codes "run") run_rules ∷ command (codes "trace") trace_rules ∷ command (codes "next") next_rules
    ∷ command (codes "table") table_rules ∷ command (codes "analyse") analyse_rules ∷ command (codes "play") play_rules
    ∷ command (codes "serve") serve_rules ∷ []

-- the whole command line
abbrev pub command_line : App
command_line = fold (λ app sub. with_subcommand app sub.top) program commands

-- ---- what is built

-- an argument is of this rule, and is its own command's alone
abbrev pub IsArgument : Rule → Arg → Type 0
IsArgument rule arg = (rule_of arg ≡ rule) × (arg.global ≡ false)

-- a command reads words as this one does, and each argument is its own command's alone
abbrev pub IsCommand : App → Command → Type 0
IsCommand app command = (app_of command ≡ app) × ((out-Command command).has_globals ≡ false)

-- .. a draft, unless memory was refused
abbrev pub IsDraft : App → Draft → Type 0
IsDraft app draft = IfOk draft.command (IsCommand app)

-- a draft with one argument more
abbrev pub AddsArgument : Draft → Arg → Draft → Type 0
AddsArgument old argument new = (app : App) (rule : Rule) → IsDraft app old → IsArgument rule argument → IsDraft (with_rule app rule) new
