-- From what was found for a command's words to what they ask for.
use Rattle.std.proofs.Common.{◌≡◌, ◌∙◌, true, List, Result, IfOk, refl, ap, subst}
use Rattle.clap.specs.Words.{App, HasMatchesOf, Text, is_simple, subcommand_of, subcommand_rows_of}
use Rattle.clap.specs.declared.ArgMatches.{ArgMatches}
use Rattle.clap.proofs.OnLiterals.{clap_on_literals}
use Rattle.marlowe_cli.specs.declared.found.NoTask.{NoTask}
use Rattle.marlowe_cli.specs.declared.task.Task.{Task}
use Rattle.marlowe_cli.specs.Asked.{IsAsked}
use Rattle.marlowe_usage.specs.Lines.{command_line}

-- `clap` says what it finds for the words of the command line
is_plain : is_simple command_line ≡ true
unfolding clap_on_literals
is_plain = refl

-- a task that was made of what was found is what the words ask for
pub asked_is : (a : App) (words : List Text) (m : ArgMatches) (task : Result Task NoTask) → a ≡ command_line → HasMatchesOf a words m
    → IfOk task (IsAsked (subcommand_rows_of m)) → IfOk task (IsAsked (subcommand_of command_line words))
asked_is a words m task is matches asked =
    let found = (matches (ap is_simple is ∙ is_plain)).1 ∙ ap (λ app. subcommand_of app words) is in
    subst (λ got. IfOk task (IsAsked got)) found asked
