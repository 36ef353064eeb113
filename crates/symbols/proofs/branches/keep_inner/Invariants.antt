use Rattle.linear.specs.Linear.{symbol}
use Rattle.symbols.specs.Branches.{KeepsWhere}
use Rattle.symbols.proofs.branches.keep_inner.Given as goal

abbrev pub invariant-loop-at : goal.invariant-loop-at
invariant-loop-at l = KeepsWhere l.fn.symbols l.symbols l.here (symbol l.own) l.condition.facts l.condition.apart l.count l.symbol
