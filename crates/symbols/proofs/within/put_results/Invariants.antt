use Rattle.symbols.specs.Symbols.{AreResults}
use Rattle.symbols.specs.Held.{operations_of}
use Rattle.symbols.specs.Within.{HoldWhere}
use Rattle.symbols.proofs.within.put_results.Given as goal

abbrev pub invariant-loop-at : goal.invariant-loop-at
invariant-loop-at l = HoldWhere (λ r. AreResults r (operations_of l.operations)) l.fn.bounds l.bounds
