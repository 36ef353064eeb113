use Rattle.std.proofs.Common.{◌≡◌, ◌+◌, pos, ◌<ℤ◌, ◌∷◌, List, drop, ◌∙◌, ap, sym, subst}
use Rattle.play_holdings.specs.declared.holding.Holding.{Holding}
use Rattle.play_holdings.specs.Holdings.{AllAbove}
use Rattle.play_holdings.specs.SumsSupport.{with_next, with_all, HasRoom}
use Rattle.play_holdings.proofs.SumLemmas.{AreWhole, above_from, above_next, has_room, here_on, whole_next}
use Rattle.play_holdings.proofs.sums.sum_up.Goals as goal

pub put_next-requires-clause-next_above : goal.put_next-requires-clause-next_above
put_next-requires-clause-next_above c =
    let rows = c.args.rows.now in
    let i = c.loop-row.row-index in
    let x = c.row-item.result in
    let above = subst AllAbove (here_on (λ l. l) rows i x c.loop-row-test.true c.row-item.is) (above_from rows i c.requires.above) in
    subst (λ (h : Holding). pos 0 <ℤ h.amount) (sym c.in_ok-next.ensures) above.0

pub put_next-requires-clause-room : goal.put_next-requires-clause-room
put_next-requires-clause-room c =
    let rows = c.args.rows.now in
    let i = c.loop-row.row-index in
    let x = c.row-item.result in
    let sums = c.loop-row.sums.items in
    let rest = drop (i + 1) rows in
    let here = here_on (λ l. l) rows i x c.loop-row-test.true c.row-item.is in
    let above = subst AllAbove here (above_from rows i c.requires.above) in
    let whole = subst (AreWhole rows sums) here c.loop-row.invariant.whole in
    subst (λ (h : Holding). HasRoom h sums) (sym c.in_ok-next.ensures) (has_room rows sums rest x c.requires.fit c.loop-row.invariant.above above whole)

pub loop-row-preserved : goal.loop-row-preserved
loop-row-preserved c =
    let rows = c.args.rows.now in
    let i = c.loop-row.row-index in
    let x = c.row-item.result in
    let sums = c.loop-row.sums.items in
    let rest = drop (i + 1) rows in
    let here = here_on (λ l. l) rows i x c.loop-row-test.true c.row-item.is in
    let above = subst AllAbove here (above_from rows i c.requires.above) in
    let whole = subst (AreWhole rows sums) here c.loop-row.invariant.whole in
    let put : c.put_next.new.sums.items ≡ with_next sums x = c.in_ok-put_next.ensures ∙ ap (with_next sums) c.in_ok-next.ensures in
    record {
      put = ap (λ (l : List Holding). with_all l rest) put ∙ sym (ap (λ (l : List Holding). with_all sums l) here) ∙ c.loop-row.invariant.put;
      whole = subst (λ (l : List Holding). AreWhole rows l rest) (sym put) (whole_next rows sums rest x whole);
      above = subst AllAbove (sym put) (above_next x sums above.0 c.loop-row.invariant.above);
    }
