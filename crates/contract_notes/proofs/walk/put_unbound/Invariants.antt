use Rattle.std.proofs.Common.{◌≡◌, ◌++◌}
use Rattle.contract_notes.specs.Notes.{unbound_at}
use Rattle.contract_notes.proofs.walk.put_unbound.Given as goal

abbrev pub invariant-loop-source : goal.invariant-loop-source
invariant-loop-source l = l.notes ≡ l.fn.notes ++ unbound_at l.at l.yielded
