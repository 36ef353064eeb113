use Rattle.contract.specs.Tree.{contract_tree}
use Rattle.semantics.specs.Walk.{standing}
use Rattle.reached_bounds.proofs.PlayedLemmas.{run_more}
use Rattle.reached_bounds.proofs.played.+play_on.Goals as goal

pub returns-in-Some : goal.returns-in-Some
returns-in-Some t c =
    let next = c.in-Some.outcome in
    run_more (standing c.args.state (contract_tree c.args.contract.now)) (standing next.state (contract_tree next.place.now)) c.args.before next.payments c.in_ok-paid-in-Some.paid c.first-item.result c.args.run.now c.play_on.result
    (rw c.in-Some.is at c.in_ok-outcome-in-len1-up.ensures.answer) (rw c.in-Some.is at c.in_ok-outcome-in-len1-up.ensures.payments) c.in_ok-paid-in-Some.ensures c.in-len1-up.len_at_least c.first-item.is c.play_on.ensures
