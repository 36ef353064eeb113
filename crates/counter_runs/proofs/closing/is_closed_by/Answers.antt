use Rattle.contract.specs.Tree.{contract_tree}
use Rattle.semantics.specs.Walk.{standing}
use Rattle.counter_runs.proofs.ClosingLemmas.{closed_by}
use Rattle.counter_runs.proofs.closing.is_closed_by.Goals as goal

pub returns-in-Ok : goal.returns-in-Ok
returns-in-Ok c = λ h.
    let o = c.in-Ok.outcome in
    let answer = rw c.as_slice.ensures at c.in-Ok.ensures.answer in
    closed_by c.args.state.now (contract_tree c.args.contract.now) c.args.last.now (standing o.state (contract_tree o.place.now)) answer (c.is_spent.ensures h)
