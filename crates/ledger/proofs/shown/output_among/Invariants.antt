use Rattle.std.proofs.Common.{◌≡◌, drop}
use Rattle.ledger.specs.Shown.{output_among}
use Rattle.ledger.proofs.shown.output_among.Given as goal

abbrev pub invariant-loop-x : goal.invariant-loop-x
invariant-loop-x l = output_among l.outputs l.reference ≡ output_among (drop l.x-index l.outputs) l.reference
