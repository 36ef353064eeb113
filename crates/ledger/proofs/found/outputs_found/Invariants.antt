use Rattle.std.proofs.Common.{◌≡◌, map, take}
use Rattle.ledger.proofs.found.outputs_found.Given as goal

abbrev pub invariant-loop-x : goal.invariant-loop-x
invariant-loop-x g l = l.outputs ≡ map (λ x. (g.L.Resolves.moment l.ledger).unspent x.reference) (take l.x-index l.inputs)
