use Rattle.std.proofs.Common.{sym, subst, List}
use Rattle.contract.specs.Tree.{contract_tree}
use Rattle.losses.specs.declared.loss.Loss.{Loss}
use Rattle.losses.specs.Told.{OthersLoseNothing}
use Rattle.loss_walk.proofs.AskedLemmas.{none_lose}
use Rattle.loss_walk.proofs.sole.none_lost.Goals as goal

pub returns-clause-others : goal.returns-clause-others
returns-clause-others c =
    let s = c.args.state.now in
    let d = contract_tree c.args.contract.now in
    subst (λ (ls : List Loss). OthersLoseNothing ls s d) (sym c.new.ensures) (none_lose c.nets_bound_losses.ensures s d c.accounts-accounts.ensures.positive c.requires)
