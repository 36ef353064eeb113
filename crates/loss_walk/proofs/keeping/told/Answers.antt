use Rattle.loss_walk.proofs.KeptLemmas.{told_more, told_all}
use Rattle.loss_walk.proofs.keeping.told.Goals as goal

pub loop-account-preserved : goal.loop-account-preserved
loop-account-preserved c =
    let i = c.loop-account.invariant in
    let tells = c.in_ok-put_own.ensures in
    record {
      told = tells.told i.told;
      rows = told_more c.args.party.now c.args.asked.now c.args.paid.now c.args.net.now c.as_slice-account-items.result.now c.loop-account.account-index c.loop-account-item.result c.loop-account.all c.put_own.new.all c.loop-account-test.true c.loop-account-item.is i.rows tells;
    }

pub returns-clause-all : goal.returns-clause-all
returns-clause-all c =
    told_all c.args.party.now c.args.net.now c.as_slice-account-items.result.now c.loop-account.account-index c.loop-account.all c.as_slice-account-items.ensures.all c.loop-account-test.false c.loop-account.invariant.rows
