use Rattle.std.proofs.Common.{Some}
use Rattle.marlowe_run.specs.Run.{run_within}
use Rattle.serve.specs.RefusalReasons.Reasons.{Tells}
use Rattle.serve.specs.RefusalReasons.declared.source.Behind.TheVariants as behind
use Rattle.marlowe_commands.specs.Streams.{streams_of}
use Rattle.marlowe_commands.proofs.ShownLemmas.{run_shows}
use Rattle.marlowe_commands.proofs.told.ran.Goals as goal

pub returns : goal.returns
returns c =
    run_shows c.args.face c.args.big (run_within c.args.readable c.args.contract.text.now c.args.state.text.now c.args.transaction.text.now)
    (Tells c.args.contract (Some c.args.state) c.args.readable (behind.One c.args.transaction)) (streams_of c.in_ok-printed.printed)
    c.in_ok-printed.ensures
