use Rattle.std.proofs.Common.{rules, FitsSigned, Some, refl, ap}
use Rattle.std.specs.Int.{w128}
use Rattle.std.proofs.lemmas.Int.{to_z-of_z}
use Rattle.contract.specs.Tree.{contract_tree}
use Rattle.loss_walk.proofs.SoleLemmas.{told_within, told_others}
use Rattle.loss_walk.proofs.sole.lost_by.Goals as goal

pub returns-clause-losses : goal.returns-clause-losses
returns-clause-losses c =
    let fits : FitsSigned w128 c.in-Some.most = search rules in
    told_within c.money_is_kept.ensures c.payments_are_natural.ensures c.accounts_stay_above_zero.ensures c.args.state.now (contract_tree c.args.contract.now) c.args.account c.args.ranges.now c.in-Some.most _ _ c.push.new.self c.in_ok-push.ensures.added
    c.new-all.ensures c.accounts-accounts.ensures.positive c.requires.within c.requires.unpaid c.in-Some.ensures.1 refl refl (ap Some (to_z-of_z w128 c.in-Some.most fits))

pub returns-clause-others : goal.returns-clause-others
returns-clause-others c =
    told_others c.nets_bound_losses.ensures c.args.state.now (contract_tree c.args.contract.now) c.args.account _ _ c.push.new.self c.in_ok-push.ensures.added c.new-all.ensures c.accounts-accounts.ensures.positive c.requires.sole refl refl
