use Rattle.symbols.specs.Either.{Relates}
use Rattle.symbols.proofs.either.relate_over.Given as goal

abbrev pub invariant-loop-newer : goal.invariant-loop-newer
invariant-loop-newer l = Relates l.fn.symbols l.symbols l.one l.left l.other l.right l.count l.number
