use Rattle.std.proofs.Common.{[], List, ap, sym, subst, ◌∙◌}
use Rattle.std.proofs.lemmas.Result.{IfOk-weaker}
use Rattle.play_holdings.specs.declared.holding.Holding.{Holding}
use Rattle.play_holdings.specs.Holdings.{AllAbove, AreSums}
use Rattle.play_holdings.specs.SumsSupport.{Fit, with_all}
use Rattle.play_holdings.proofs.TotalLemmas.{above_moved}
use Rattle.play_holdings.proofs.HoldingsLemmas.{are_sums, fit_moved}
use Rattle.play_holdings.proofs.sums.sums_of.Goals as goal

pub sum_up-requires-clause-above : goal.sum_up-requires-clause-above
sum_up-requires-clause-above c = subst AllAbove (sym c.deref.ensures.value) (above_moved c.args.rows.items c.sort_holdings.new.rows.items c.sort_holdings.ensures.same c.requires.above)

pub sum_up-requires-clause-fit : goal.sum_up-requires-clause-fit
sum_up-requires-clause-fit c = subst Fit (sym c.deref.ensures.value) (fit_moved c.args.rows.items c.sort_holdings.new.rows.items c.sort_holdings.ensures.same c.requires.fit)

pub returns : goal.returns
returns c =
    let sums = are_sums c.args.rows.items c.sort_holdings.new.rows.items c.sort_holdings.ensures.same c.sort_holdings.ensures.sorted c.requires.above in
    IfOk-weaker c.sum_up.result _ _ (λ hs e. subst (AreSums c.args.rows.items) (sym (e ∙ ap (λ (l : List Holding). with_all [] l) c.deref.ensures.value)) sums) c.sum_up.ensures
