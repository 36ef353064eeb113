use Rattle.std.proofs.Common.{take}
use Rattle.symbols.specs.Symbols.{FactsBelow}
use Rattle.symbols.proofs.branches.are_below.Given as goal

abbrev pub invariant-loop-expression : goal.invariant-loop-expression
invariant-loop-expression l = FactsBelow l.count (take l.expression-index l.list)
