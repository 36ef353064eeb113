use Rattle.marlowe_commands.specs.Streams.{streams_of}
use Rattle.marlowe_commands.proofs.ShownLemmas.{noted_by}
use Rattle.marlowe_commands.proofs.told.play_noted.Goals as goal

pub returns : goal.returns
returns g c =
    noted_by c.args.face (Unit {0}) ⊥ (streams_of c.in_ok-printed.printed) c.scenario_notes-notes.result.items (streams_of c.noted.result)
    c.in_ok-printed.ensures c.scenario_notes-notes.ensures c.noted.ensures
