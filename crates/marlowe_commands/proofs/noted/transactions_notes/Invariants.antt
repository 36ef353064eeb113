use Rattle.marlowe_commands.specs.Streams.{AreNotes}
use Rattle.marlowe_commands.proofs.noted.transactions_notes.Given as goal

-- the notes so far are notes
abbrev pub invariant-loop-pair : goal.invariant-loop-pair
invariant-loop-pair l = AreNotes l.notes.items
