use Rattle.std.proofs.Common.{FitsSigned, rules}
use Rattle.std.proofs.lemmas.Int.{to_z-of_z}
use Rattle.std.specs.Int.{w128}
use Rattle.analysis_steps.proofs.AmountLemmas.{from_sum, up_to_sum}
use Rattle.analysis_steps.proofs.amounts.sum_of_bounds.Goals as goal

pub returns-clause-least : goal.returns-clause-least
returns-clause-least c =
    let fx : FitsSigned w128 c.in_ok-x.x = search rules in
    let fy : FitsSigned w128 c.in_ok-y.y = search rules in
    let h = rw (to_z-of_z w128 c.in_ok-x.x fx, to_z-of_z w128 c.in_ok-y.y fy) at c.checked_sum.ensures in
    rw (c.in_ok-x.was, c.in_ok-y.was) (from_sum c.in_ok-x.x c.in_ok-y.y c.checked_sum.result h)

pub returns-clause-greatest : goal.returns-clause-greatest
returns-clause-greatest c =
    let fx : FitsSigned w128 c.in_ok-x.x = search rules in
    let fy : FitsSigned w128 c.in_ok-y.y = search rules in
    let h = rw (to_z-of_z w128 c.in_ok-x.x fx, to_z-of_z w128 c.in_ok-y.y fy) at c.checked_sum.ensures in
    rw (c.in_ok-x.was, c.in_ok-y.was) (up_to_sum c.in_ok-x.x c.in_ok-y.y c.checked_sum.result h)
