use Rattle.std.proofs.Common.{◌∙◌}
use Rattle.builder.proofs.CausesLemmas.{funds_are}
use Rattle.builder.proofs.steps.steps_funds.Goals as goal

pub returns-in-Ok-check_owned_once-clause-funds : goal.returns-in-Ok-check_owned_once-clause-funds
returns-in-Ok-check_owned_once-clause-funds c =
    funds_are c.args.asked.now _ c.args.steps.now _ _ _ _ _ _ c.asked.view_is (c.deref-2.ensures.value ∙ c.in_ok-roles.ensures) (c.deref-3.ensures.value ∙ c.in_ok-amounts.ensures)
    (c.deref.ensures.value ∙ c.in_ok-amounts.ensures) (c.deref-4.ensures.value ∙ c.in_ok-owns.ensures) c.in_ok-front.ensures.front
    c.in_ok-check_actors.ensures c.in_ok-check_funds.ensures c.in-Ok.ensures.all c.in_ok-front.ensures.bundles
