use Rattle.std.proofs.Common.{map}
use Rattle.std.specs.Prelude.{string_bytes}
use Rattle.clap.specs.Words.{app_of}
use Rattle.marlowe_cli.proofs.LineLemmas.{asked_is}
use Rattle.marlowe_cli.proofs.task.found_for.Goals as goal

pub returns : goal.returns
returns c =
    asked_is (app_of c.args.command.now) (map (λ w. string_bytes w) c.args.words.now) c.in_ok-matches.matches c.task_of.result c.requires
    c.in_ok-matches.ensures.ok.2 c.task_of.ensures
