use Rattle.std.proofs.Common.{◌∙◌, ap}
use Rattle.std.specs.FinMap.Entries.{put}
use Rattle.contract.specs.Names.Orders.{account_cmp}
use Rattle.builder.proofs.CopyLemmas.{put_next}
use Rattle.builder.proofs.fresh.copy_accounts.Goals as goal

pub loop-account-preserved : goal.loop-account-preserved
loop-account-preserved c =
    let e = c.account-item.result in
    c.in_ok-put_account.ensures ∙ ap (put account_cmp e.0 e.1) c.loop-account.invariant ∙ put_next c.args.accounts.now c.loop-account.account-index e c.requires c.loop-account-test.true c.account-item.is
