use Rattle.std.proofs.lemmas.Result.{IfOk-weaker}
use Rattle.play_holdings.proofs.HoldingsLemmas.{rows_fit, are_held}
use Rattle.play_holdings.proofs.holdings.holdings_of.Goals as goal

pub sums_of-requires-clause-fit : goal.sums_of-requires-clause-fit
sums_of-requires-clause-fit c = rows_fit c.in_ok-ends.ends c.args.unspent.now c.in_ok-rows.rows.items c.in_ok-rows.ensures.rows c.requires.fit

pub returns-clause-together : goal.returns-clause-together
returns-clause-together c =
    IfOk-weaker c.sums_of.result _ _ (λ hs sums t. are_held c.in_ok-ends.ends c.args.unspent.now c.in_ok-rows.rows.items hs.items c.in_ok-rows.ensures.rows sums t) c.sums_of.ensures
