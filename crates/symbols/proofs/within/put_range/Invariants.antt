use Rattle.symbols.specs.Within.{LieIn, HoldWhere}
use Rattle.symbols.proofs.within.put_range.Given as goal

abbrev pub invariant-loop-symbol : goal.invariant-loop-symbol
invariant-loop-symbol l = HoldWhere (λ r. LieIn r l.symbols l.range) l.fn.bounds l.bounds
