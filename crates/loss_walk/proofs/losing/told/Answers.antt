use Rattle.loss_walk.proofs.FloorLemmas.{named_more, named_all}
use Rattle.loss_walk.proofs.losing.told.Goals as goal

pub loop-account-preserved : goal.loop-account-preserved
loop-account-preserved c =
    let i = c.loop-account.invariant in
    let told = c.in_ok-put_row.ensures in
    record {
      floors = told.floors i.floors;
      named = named_more c.args.rows.now c.as_slice-account-items.result.now c.loop-account.account-index c.loop-account-item.result c.loop-account.all c.put_row.new.all c.loop-account-test.true c.loop-account-item.is i.named told;
    }

pub returns-clause-all : goal.returns-clause-all
returns-clause-all c =
    named_all c.args.rows.now c.as_slice-account-items.result.now c.loop-account.account-index c.loop-account.all c.as_slice-account-items.ensures.all c.loop-account-test.false c.loop-account.invariant.named
