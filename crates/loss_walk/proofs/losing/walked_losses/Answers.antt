use Rattle.std.proofs.Common.{List, ap, ◌∙◌, rules, w64, SFits}
use Rattle.std.proofs.lemmas.Int.{to_z-of_z}
use Rattle.contract.specs.Names.declared.account.Account.{Account}
use Rattle.contract.specs.Tree.{contract_tree}
use Rattle.loss_walk.specs.Nets.{of_all_runs}
use Rattle.loss_walk.specs.Cuts.{quiet_from}
use Rattle.loss_walk.proofs.CoverLemmas.{lose_within, others_lose_nothing}
use Rattle.loss_walk.proofs.losing.walked_losses.Goals as goal

pub returns-clause-losses : goal.returns-clause-losses
returns-clause-losses c =
    let fits : SFits w64 c.min_time.result = search rules in
    lose_within c.in_ok-known.known c.args.state.now (contract_tree c.args.contract.now) _ c.from.result c.new-rows.result c.walk.new.rows (ap (λ (xs : List Account). record of_all_runs { asked = xs }) c.new.ensures) c.in_ok-known.ensures (c.from.ensures ∙ ap quiet_from (to_z-of_z w64 c.min_time.result fits ∙ c.min_time.ensures)) c.in_ok-walk.ensures
    c.nets_bound_losses.ensures c.in_ok-all.all c.in_ok-all.ensures.floors

pub returns-clause-others : goal.returns-clause-others
returns-clause-others c =
    let fits : SFits w64 c.min_time.result = search rules in
    others_lose_nothing c.in_ok-known.known c.args.state.now (contract_tree c.args.contract.now) _ c.from.result c.new-rows.result c.walk.new.rows (ap (λ (xs : List Account). record of_all_runs { asked = xs }) c.new.ensures) c.in_ok-known.ensures (c.from.ensures ∙ ap quiet_from (to_z-of_z w64 c.min_time.result fits ∙ c.min_time.ensures)) c.in_ok-walk.ensures
    c.nets_bound_losses.ensures c.in_ok-all.all c.in_ok-all.ensures.all
