use Rattle.std.proofs.Common.{subst}
use Rattle.std.specs.List.{AllByRecursion}
use Rattle.contract.specs.Tree.{contract_tree}
use Rattle.loss_walk.specs.Floors.{IsToldBy}
use Rattle.loss_walk.proofs.KeptLemmas.{keeps_within, others_are_kept}
use Rattle.loss_walk.proofs.keeping.kept_up.Goals as goal

pub returns-clause-kept : goal.returns-clause-kept
returns-clause-kept c =
    keeps_within c.args.party.now c.in_ok-asked.asked c.in_ok-paid.paid c.in_ok-net.net c.args.state.now (contract_tree c.args.contract.now) c.in_ok-paid.ensures c.in_ok-net.ensures c.payments_are_natural.ensures c.accounts_stay_above_zero.ensures c.accounts-accounts.ensures.positive c.in_ok-all.all
    (subst (λ xs. AllByRecursion (IsToldBy c.args.party.now xs c.in_ok-paid.paid c.in_ok-net.net) c.in_ok-all.all) c.as_slice.ensures c.in_ok-all.ensures.told)

pub returns-clause-others : goal.returns-clause-others
returns-clause-others c =
    others_are_kept c.args.party.now c.in_ok-asked.asked c.in_ok-paid.paid c.in_ok-net.net c.args.state.now (contract_tree c.args.contract.now) c.in_ok-paid.ensures c.in_ok-net.ensures c.payments_are_natural.ensures c.accounts_stay_above_zero.ensures
    c.accounts-accounts.ensures.positive c.in_ok-all.all c.in_ok-all.ensures.all
