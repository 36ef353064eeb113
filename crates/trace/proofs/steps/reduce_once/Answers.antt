use Rattle.std.proofs.Common.{◌++◌, ◌∙◌, ap, option_to_list}
use Rattle.contract.specs.Tree.{contract_tree}
use Rattle.semantics.specs.Reduced.{step, turn_of}
use Rattle.trace.proofs.SteppingLemmas.{listed}
use Rattle.trace.proofs.steps.reduce_once.Goals as goal

pub returns-in_ok-push_step-in-Some-clause-path : goal.returns-in_ok-push_step-in-Some-clause-path
returns-in_ok-push_step-in-Some-clause-path c =
    let here = c.args.path.now in
    let entered = rw c.in-Some.is at c.in_ok-next.ensures.place in
    c.in_ok-push_step-in-Some.ensures ∙ (ap (λ s. here ++ option_to_list s) entered.1.1 ∙ ap (λ p. here ++ p) (listed (turn_of (step c.args.interval c.args.state.now (contract_tree c.args.contract.now)))))
