use Rattle.contract_bytes.proofs.Fronts.{on_any_err}
use Rattle.contract_bytes.proofs.OneMore.{one_more_stands, one_more_fits, one_more_front}
use Rattle.contract_bytes.proofs.spell.put_items.Goals as goal

pub returns-in_err-put-clause-err : goal.returns-in_err-put-clause-err
returns-in_err-put-clause-err g c =
    on_any_err c.from_residual.result
    (one_more_front g.T.Spell.spelling c.args.items.now c.loop-item.item-index c.item-item.result c.loop-item-test.true c.item-item.is c.args.out.now.items c.loop-item.out.items c.put.new.out.items c.loop-item.invariant.0 c.in_err-put.ensures.err)

pub loop-item-preserved : goal.loop-item-preserved
loop-item-preserved g c = (
  one_more_stands g.T.Spell.spelling c.args.items.now c.loop-item.item-index c.item-item.result c.loop-item-test.true c.item-item.is c.args.out.now.items c.loop-item.out.items c.put.new.out.items c.loop-item.invariant.0 c.in_ok-put.ensures.spelling,
  one_more_fits g.T.Spell.Fits c.args.items.now c.loop-item.item-index c.item-item.result c.loop-item-test.true c.item-item.is c.loop-item.invariant.1 c.in_ok-put.ensures.fits,
)
