use Rattle.std.proofs.Common.{◌≡◌, drop}
use Rattle.roles.specs.Eutxo.Judgement.{found_names, scripts_found}
use Rattle.ledger.proofs.found.scripts_found.Given as goal

abbrev pub invariant-loop-i : goal.invariant-loop-i
invariant-loop-i g l = l.scripts ≡ scripts_found (g.L.Resolves.moment l.ledger).published (found_names (drop l.i l.outputs))
