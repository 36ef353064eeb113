use Rattle.std.proofs.Common.{◌≡◌, ◌++◌, take}
use Rattle.symbols.proofs.branches.append.Given as goal

abbrev pub invariant-loop-expression : goal.invariant-loop-expression
invariant-loop-expression l = l.list ≡ l.fn.list ++ take l.expression-index l.more
