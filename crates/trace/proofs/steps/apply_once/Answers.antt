use Rattle.contract.specs.Tree.{contract_tree}
use Rattle.semantics.specs.Walk.{standing}
use Rattle.trace.proofs.SteppingLemmas.{applied_path}
use Rattle.trace.proofs.steps.apply_once.Goals as goal

pub returns : goal.returns
returns c =
    let h = c.in_ok-then.ensures in
    record {
      answer = h.answer;
      path = applied_path _ _ c.in_ok-then.then c.args.interval c.args.input.now (standing c.args.state.now (contract_tree c.args.contract.now)) (standing c.apply.new.state (contract_tree c.in_ok-then.then.contract.now))
          (λ q. q.step) c.args.path.now c.push_step.new.path (λ t r k. k.1) h.answer h.leads c.in_ok-push_step.ensures;
    }
