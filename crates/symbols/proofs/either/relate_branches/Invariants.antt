use Rattle.symbols.specs.Either.{Relates}
use Rattle.symbols.proofs.either.relate_branches.Given as goal

abbrev pub invariant-loop-at : goal.invariant-loop-at
invariant-loop-at l = Relates l.fn.symbols l.symbols l.one l.left l.other l.right l.count l.number
