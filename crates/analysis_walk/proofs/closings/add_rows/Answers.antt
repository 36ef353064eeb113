use Rattle.analysis_walk.proofs.RowLemmas.{all_begin, all_met, made_more, made_all}
use Rattle.analysis_walk.proofs.closings.add_rows.Goals as goal

pub loop-account-init : goal.loop-account-init
loop-account-init c = all_begin c.args.before c.args.rows.now c.requires.met

pub loop-account-preserved : goal.loop-account-preserved
loop-account-preserved c =
    made_more c.args.before c.args.spans.now c.loop-account.account-index c.loop-account-item.result c.args.rows.now c.loop-account.rows c.get-row.result c.named.result c.set.new.self c.loop-account-test.true c.loop-account-item.is
    c.loop-account.invariant c.get-row.ensures.value c.named.ensures c.in_ok-set.ensures.ok

pub returns : goal.returns
returns c =
    let h = c.loop-account.invariant in
    record {
      met = all_met c.args.before _ c.args.rows.now c.loop-account.rows h;
      added = made_all c.args.before c.args.spans.now c.loop-account.account-index c.args.rows.now c.loop-account.rows c.loop-account-test.false h;
    }
