use Rattle.coin_selection.proofs.ListLaws.{bundles_more}
use Rattle.coin_selection.proofs.sums.see_all.Goals as goal

pub loop-item-preserved : goal.loop-item-preserved
loop-item-preserved g c = bundles_more g.A.Holds.held c.args.items.now c.loop-item.item-index c.item-item.result c.loop-item-test.true c.item-item.is c.loop-item.invariant c.see.ensures
