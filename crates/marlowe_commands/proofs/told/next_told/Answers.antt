use Rattle.marlowe_commands.specs.Streams.{streams_of}
use Rattle.marlowe_commands.proofs.ShownLemmas.{noted_by}
use Rattle.marlowe_commands.proofs.told.next_told.Goals as goal

pub returns : goal.returns
returns g c =
    noted_by c.args.face ⊥ ⊥ (streams_of c.in_ok-printed.printed) c.trace_notes-notes.result.items (streams_of c.noted.result)
    c.in_ok-printed.ensures c.trace_notes-notes.ensures c.noted.ensures
