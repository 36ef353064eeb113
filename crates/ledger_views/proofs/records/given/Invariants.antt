use Rattle.std.proofs.Common.{◌≡◌, drop}
use Rattle.ledger_kept.specs.EutxoTypes.Parts.{given_to}
use Rattle.ledger_views.proofs.records.given.Given as goal

abbrev pub invariant-loop-x : goal.invariant-loop-x
invariant-loop-x l = given_to l.reference l.inputs ≡ given_to l.reference (drop l.x-index l.inputs)
