use Rattle.std.proofs.Common.{◌≡◌, take}
use Rattle.ledger_views.proofs.records.copies_of.Given as goal

abbrev pub invariant-loop-x : goal.invariant-loop-x
invariant-loop-x l = l.copies ≡ take l.x-index l.inputs
