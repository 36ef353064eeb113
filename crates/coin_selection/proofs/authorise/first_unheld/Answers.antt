use Rattle.std.proofs.Common.{◌+◌, Some, if◌then◌else◌, drop, sym, ◌∙◌, ap}
use Rattle.std.specs.Option.{option_map}
use Rattle.contract.specs.Names.declared.token.Token.{Token}
use Rattle.builder_spec.specs.Holding.{first_unheld}
use Rattle.coin_selection.proofs.RoleTokenLemmas.{unheld_first}
use Rattle.coin_selection.proofs.authorise.first_unheld.Goals as goal

pub returns-then-branch : goal.returns-then-branch
returns-then-branch c =
    let us = c.args.outputs.now in
    let rs = c.args.tokens.now in
    let i = c.loop-token.token-index in
    let r = c.token-item.result in
    let b = c.in_ok-is_unheld.field-0 in
    ap Some c.role.ensures
    ∙ sym (ap (option_map (λ (t : Token). t.name))
    (c.loop-token.invariant
    ∙ unheld_first rs us c.in_ok-unheld.unheld i r b c.requires c.in_ok-unheld.ensures c.loop-token-test.true c.token-item.is c.in_ok-is_unheld.ensures
    ∙ ap (λ a. if a then Some r else first_unheld us (drop (i + 1) rs)) c.if-branch.true))

pub loop-token-preserved : goal.loop-token-preserved
loop-token-preserved c =
    let us = c.args.outputs.now in
    let rs = c.args.tokens.now in
    let i = c.loop-token.token-index in
    let r = c.token-item.result in
    let b = c.in_ok-is_unheld.field-0 in
    c.loop-token.invariant
    ∙ unheld_first rs us c.in_ok-unheld.unheld i r b c.requires c.in_ok-unheld.ensures c.loop-token-test.true c.token-item.is c.in_ok-is_unheld.ensures
    ∙ ap (λ a. if a then Some r else first_unheld us (drop (i + 1) rs)) c.if-branch.false
