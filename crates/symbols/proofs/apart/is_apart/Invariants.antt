use Rattle.symbols.proofs.apart.is_apart.Given as goal

abbrev pub invariant-loop-d : goal.invariant-loop-d
invariant-loop-d l = Unit {0}
