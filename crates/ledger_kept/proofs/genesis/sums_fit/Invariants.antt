use Rattle.std.proofs.Common.{drop}
use Rattle.ledger_kept.proofs.GenesisLemmas.{AreAmounts, AreSums}
use Rattle.ledger_kept.proofs.genesis.sums_fit.Given as goal

abbrev pub invariant-loop-o : goal.invariant-loop-o
invariant-loop-o l = record {
  sums : AreSums l.outputs l.held (drop l.o-index l.outputs);
  fit : AreAmounts l.held;
}
