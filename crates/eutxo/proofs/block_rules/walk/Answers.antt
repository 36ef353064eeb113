use Rattle.eutxo.specs.Found.{script_at}
use Rattle.eutxo.proofs.WalkLemmas.{room}
use Rattle.eutxo.proofs.block_rules.walk.Goals as goal

-- there is room for the place of one contract more
pub walk_over-requires : goal.walk_over-requires
walk_over-requires g c =
    room g.V.Validator.judges (script_at c.args.scripts.now) c.args.tx.now c.args.spent.now c.loop-x.walked c.loop-x.x-index c.x-item.result c.loop-x-test.true c.x-item.is c.requires c.loop-x.invariant.places
