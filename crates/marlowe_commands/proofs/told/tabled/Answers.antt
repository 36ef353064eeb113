use Rattle.marlowe_run.specs.TableText.{table_text_within}
use Rattle.serve.specs.RefusalReasons.Reasons.{TellsOfTable}
use Rattle.marlowe_commands.specs.Streams.{streams_of}
use Rattle.marlowe_commands.proofs.ShownLemmas.{table_shows}
use Rattle.marlowe_commands.proofs.told.tabled.Goals as goal

pub returns : goal.returns
returns c =
    table_shows c.args.face (table_text_within c.args.depth c.args.contract.text.now) (TellsOfTable c.args.contract c.args.depth)
    (streams_of c.in_ok-printed.printed) c.in_ok-printed.ensures
