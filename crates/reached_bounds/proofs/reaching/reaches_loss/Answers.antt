use Rattle.contract.specs.Tree.{contract_tree}
use Rattle.reached_bounds.proofs.PlayedLemmas.{loss_so}
use Rattle.reached_bounds.proofs.reaching.reaches_loss.Goals as goal
use Rattle.reached_bounds.proofs.reaching.reaches_loss.Goals.{then-it, else-it}

pub returns-after-it : goal.returns-after-it
returns-after-it c =
    let l = c.args.loss.now in
    let played = rw c.in-Some.is at c.in_ok-it.ensures in
    elim c.if-it.branch [
      | then-it w ↦
          rw w.result-is (loss_so l.party l.token c.args.state.now (contract_tree c.args.contract.now) c.args.run.now c.in-Some.it l.most w.loses.result played w.if-it.true w.loses.ensures)
      | else-it w ↦ rw w.result-is (λ e. absurd (cc))
    ]
