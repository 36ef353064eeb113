use Rattle.std.proofs.Common.{get_or, ◌∙◌}
use Rattle.ledger_kept.specs.EutxoTypes.declared.output_ref.OutputRef.{OutputRef}
use Rattle.ledger_kept.specs.EutxoTypes.declared.output_ref.OutputRef.TheVariants.{Genesis}
use Rattle.ledger_kept.specs.LedgerSpec.Replay.{world}
use Rattle.chain_holdings.proofs.StillLemmas.{still_on, shown_still, shown_next}
use Rattle.chain_holdings.proofs.ends.ends_after.Goals as goal

pub loop-start-preserved : goal.loop-start-preserved
loop-start-preserved c =
    let i = c.loop-start.start-index in
    let start : OutputRef = get_or c.args.starts.now i (Genesis 0) in
    let still = c.loop-start.invariant.still in
    let here = c.in_ok-end.ensures.end ∙ shown_still c.args.chain c.loop-start.chain start still in
    record {
      still = still_on c.args.chain c.loop-start.chain c.look_at.new.chain still c.in_ok-end.ensures.still;
      ends = shown_next (world c.args.chain) c.args.starts.now i (Genesis 0) c.loop-start.ends.items c.push.new.self.items c.in_ok-end.end c.loop-start-test.true c.loop-start.invariant.ends c.in_ok-push.ensures.items here;
    }
