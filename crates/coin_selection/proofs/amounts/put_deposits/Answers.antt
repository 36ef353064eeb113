use Rattle.std.proofs.Common.{◌≡◌, ◌+◌, [], ◌∷◌, Option, Some, None, drop, sym, ◌∙◌, ap, subst, ℤ}
use Rattle.std.specs.List.{cons_option}
use Rattle.contract.specs.Names.declared.token.Token.{Token}
use Rattle.builder_spec.specs.Steps.{deposits}
use Rattle.builder_spec.proofs.FromRoles.PutLaws.{IsPut, put_more, put_nothing, left_at}
use Rattle.coin_selection.proofs.PutLemmas.{deposits_next}
use Rattle.coin_selection.proofs.amounts.put_deposits.Goals.{in-Some+in_ok-push, in_default}
use Rattle.coin_selection.proofs.amounts.put_deposits.Goals as goal

pub returns-in_err-push-clause-err : goal.returns-in_err-push-clause-err
returns-in_err-push-clause-err c = left_at c.from_residual.result c.args.amounts.now.items c.loop-input.amounts.items c.in_err-push.ensures.items c.loop-input.invariant

pub loop-input-preserved : goal.loop-input-preserved
loop-input-preserved c =
    let old = c.args.amounts.now.items in
    let now = c.loop-input.amounts.items in
    let later = deposits (drop (c.loop-input.input-index + 1) c.args.inputs.now) in
    let next = deposits_next c.args.inputs.now c.loop-input.input-index c.input-item.result c.loop-input-test.true c.input-item.is in
    let so = λ (o : Option (Token × ℤ)) (is : c.deposit_of.result ≡ o). next ∙ ap (λ (d : Option (Token × ℤ)). cons_option d later) (sym c.deposit_of.ensures ∙ is) in
    elim c.match-deposit_of.branch [
      | in-Some+in_ok-push w ↦
          subst (IsPut _ later old) (sym (ap (λ v. v.items) w.amounts-is ∙ w.in_ok-push.ensures.items)) (put_more old now (w.in-Some.amount ∷ []) (so (Some w.in-Some.amount) w.in-Some.is) c.loop-input.invariant)
      | in_default w ↦ subst (IsPut _ later old) (sym (ap (λ v. v.items) w.amounts-is)) (put_nothing old now (so None w.in_default.is) c.loop-input.invariant)
    ]
