use Rattle.loss_walk.proofs.FloorLemmas.{lowers_none, lowers_more, lowers_all}
use Rattle.loss_walk.proofs.rows.put_all.Goals as goal

pub loop-account-init : goal.loop-account-init
loop-account-init c = lowers_none c.args.known.now c.args.rows.now

pub loop-account-preserved : goal.loop-account-preserved
loop-account-preserved c =
    lowers_more c.args.known.now c.args.names.now c.loop-account.account-index c.account-item.result c.args.rows.now c.loop-account.rows c.put_one.new.rows c.loop-account-test.true c.account-item.is c.loop-account.invariant c.in_ok-put_one.ensures

pub returns : goal.returns
returns c = lowers_all c.args.known.now c.args.names.now c.loop-account.account-index c.args.rows.now c.loop-account.rows c.loop-account-test.false c.loop-account.invariant
