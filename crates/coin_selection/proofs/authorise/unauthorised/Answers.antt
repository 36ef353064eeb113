use Rattle.std.proofs.Common.{◌+◌, [], drop, sym, ◌∙◌, ap, subst}
use Rattle.std.specs.Option.{option_or}
use Rattle.std.specs.Prelude.{option_copied}
use Rattle.builder_spec.specs.Steps.{may_act, first_barred}
use Rattle.coin_selection.specs.RequiredSupport.{lacking_amount, IsMissing}
use Rattle.coin_selection.proofs.RoleTokenLemmas.{barred_first}
use Rattle.coin_selection.proofs.authorise.unauthorised.Goals as goal

pub returns-in-Some : goal.returns-in-Some
returns-in-Some c =
    let us = c.args.offered.now in
    let xs = c.args.inputs.now in
    let i = c.loop-input.input-index in
    let stands = subst (λ rs. IsMissing (lacking_amount rs [] us) c.in_ok-unheld.unheld) (c.deref.ensures.value ∙ c.in_ok-roles.ensures) c.in_ok-unheld.ensures in
    sym
    (c.loop-input.invariant
    ∙ barred_first c.args.currency.now c.args.signers.now us xs c.in_ok-unheld.unheld i c.input-item.result c.requires stands c.loop-input-test.true c.input-item.is
    ∙ ap (λ o. option_or o (first_barred (may_act c.args.currency.now c.args.signers.now us) (drop (i + 1) xs))) (sym c.in_ok-party.ensures ∙ ap option_copied c.in-Some.is))

pub loop-input-preserved : goal.loop-input-preserved
loop-input-preserved c =
    let us = c.args.offered.now in
    let xs = c.args.inputs.now in
    let i = c.loop-input.input-index in
    let stands = subst (λ rs. IsMissing (lacking_amount rs [] us) c.in_ok-unheld.unheld) (c.deref.ensures.value ∙ c.in_ok-roles.ensures) c.in_ok-unheld.ensures in
    c.loop-input.invariant
    ∙ barred_first c.args.currency.now c.args.signers.now us xs c.in_ok-unheld.unheld i c.input-item.result c.requires stands c.loop-input-test.true c.input-item.is
    ∙ ap (λ o. option_or o (first_barred (may_act c.args.currency.now c.args.signers.now us) (drop (i + 1) xs))) (sym c.in_ok-party.ensures ∙ ap option_copied c.in_default.is)
