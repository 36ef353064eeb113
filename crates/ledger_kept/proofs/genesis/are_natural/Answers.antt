use Rattle.ledger_kept.specs.GenesisSupport.{IsNatural}
use Rattle.ledger_kept.proofs.ListLemmas.{each_next}
use Rattle.ledger_kept.proofs.genesis.are_natural.Goals as goal

pub loop-o-preserved : goal.loop-o-preserved
loop-o-preserved c = each_next IsNatural c.args.outputs.now c.loop-o.o-index c.o-item.result c.loop-o-test.true c.o-item.is c.loop-o.invariant c.is_natural.ensures
