use Rattle.symbols.specs.Cases.{IsSame}
use Rattle.symbols.proofs.cases.settled.Given as goal

abbrev pub invariant-loop-before : goal.invariant-loop-before
invariant-loop-before l = IsSame l.here l.expression l.number
