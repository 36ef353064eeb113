use Rattle.std.proofs.Common.{◌≡◌, ◌++◌, ◌∙◌, ap, sym, subst}
use Rattle.std.specs.List.{flat_map}
use Rattle.eutxo.specs.EutxoTypes.declared.output.Output.{Output}
use Rattle.eutxo.specs.EutxoTypes.declared.output_ref.OutputRef.{OutputRef}
use Rattle.play_holdings.specs.Holdings.{AllAbove, held_in}
use Rattle.play_holdings.proofs.TotalLemmas.{above_more}
use Rattle.play_holdings.proofs.HoldingsLemmas.{rows_next}
use Rattle.play_holdings.proofs.one_by_one.one_by_one.Goals as goal

pub loop-lent-preserved : goal.loop-lent-preserved
loop-lent-preserved c =
    let f = held_in c.args.ends.now in
    let old = c.loop-lent.rows.items in
    let e : OutputRef × Output = c.lent-item.result in
    let put = c.in_ok-put_output.ensures.put ∙ ap (λ (x : OutputRef × Output). old ++ f x) c.lent.view_is in
    record {
      rows = rows_next f c.args.unspent.now c.loop-lent.lent-index e old c.put_output.new.rows.items (flat_map f c.args.unspent.now) c.loop-lent-test.true c.lent-item.is put c.loop-lent.invariant.rows;
      above = subst AllAbove (sym c.in_ok-put_output.ensures.put) (above_more old _ c.loop-lent.invariant.above c.in_ok-put_output.ensures.above);
    }
