use Rattle.std.proofs.Common.{◌≡◌, ◌+◌, ◌++◌, [], ◌∷◌, List, Option, Some, None, drop, sym, ◌∙◌, ap, subst}
use Rattle.std.specs.Option.{option_to_list}
use Rattle.contract.specs.Names.declared.token.Token.{Token}
use Rattle.builder_spec.specs.Steps.{roles_of}
use Rattle.builder_spec.proofs.FromRoles.PutLaws.{IsPut, put_more, put_nothing, left_at}
use Rattle.coin_selection.proofs.PutLemmas.{roles_next}
use Rattle.coin_selection.proofs.role_tokens.put_roles.Goals.{in-Some+in_ok-push, in_default}
use Rattle.coin_selection.proofs.role_tokens.put_roles.Goals as goal

pub returns-in_err-push-clause-err : goal.returns-in_err-push-clause-err
returns-in_err-push-clause-err c = left_at c.from_residual.result c.args.roles.now.items c.loop-input.roles.items c.in_err-push.ensures.items c.loop-input.invariant

pub loop-input-preserved : goal.loop-input-preserved
loop-input-preserved c =
    let old = c.args.roles.now.items in
    let now = c.loop-input.roles.items in
    let later = roles_of c.args.currency.now (drop (c.loop-input.input-index + 1) c.args.inputs.now) in
    let next = roles_next c.args.currency.now c.args.inputs.now c.loop-input.input-index c.input-item.result c.loop-input-test.true c.input-item.is in
    let so = λ (o : Option Token) (is : c.role_of.result ≡ o). next ∙ ap (λ (rs : List Token). rs ++ later) (sym c.role_of.ensures ∙ ap option_to_list is) in
    elim c.match-role_of.branch [
      | in-Some+in_ok-push w ↦
          subst (IsPut _ later old) (sym (ap (λ v. v.items) w.roles-is ∙ w.in_ok-push.ensures.items)) (put_more old now (w.in-Some.role ∷ []) (so (Some w.in-Some.role) w.in-Some.is) c.loop-input.invariant)
      | in_default w ↦ subst (IsPut _ later old) (sym (ap (λ v. v.items) w.roles-is)) (put_nothing old now (so None w.in_default.is) c.loop-input.invariant)
    ]
