use Rattle.std.proofs.Common.{All, take}
use Rattle.ledger_kept.specs.GenesisSupport.{IsNatural}
use Rattle.ledger_kept.proofs.genesis.are_natural.Given as goal

abbrev pub invariant-loop-o : goal.invariant-loop-o
invariant-loop-o l = All IsNatural (take l.o-index l.outputs)
