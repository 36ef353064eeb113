use Rattle.std.proofs.Common.{◌≡◌, ◌+◌, ◌++◌, [], ◌∷◌, List, Option, Some, None, option_copied, drop, sym, ◌∙◌, ap, subst, arith}
use Rattle.contract.specs.Names.declared.party.Party.{Party}
use Rattle.eutxo.specs.EutxoTypes.declared.output.Output.{Output}
use Rattle.roles.specs.Steps.{and_owed_output, owed_output, due_to, due_outputs}
use Rattle.roles.proofs.DueLemmas.{due_next}
use Rattle.roles.proofs.PutLaws.{IsPut, put_more, put_nothing}
use Rattle.roles.proofs.owing.put_due.Goals.{in-Some+in_ok-owed_output+in_ok-push, in_default}
use Rattle.roles.proofs.owing.put_due.Goals as goal

pub loop-payment-preserved : goal.loop-payment-preserved
loop-payment-preserved c =
    let currency = c.args.currency.now in
    let payment = c.payment-item.result in
    let later = due_outputs currency (drop (c.loop-payment.payment-index + 1) c.args.payments.now) in
    let next = due_next currency c.args.payments.now c.loop-payment.payment-index payment c.loop-payment-test.true c.payment-item.is in
    let so = λ (o : Option Party) (is : due_to payment ≡ o). next ∙ ap (λ (party : Option Party). and_owed_output currency payment party later) is in
    elim c.match-due_to.branch [
      | in-Some+in_ok-owed_output+in_ok-push w ↦
          let party = w.in-Some.party.now in
          let put = w.outputs-is ∙ w.in_ok-push.ensures.added ∙ ap (λ (o : Output). c.loop-payment.outputs ++ o ∷ []) w.in_ok-owed_output.ensures in
          subst (IsPut _ later c.args.outputs.now) (sym put) (put_more c.args.outputs.now c.loop-payment.outputs (owed_output currency party payment ∷ []) (so (Some party) (sym c.due_to.ensures ∙ ap option_copied w.in-Some.is)) c.loop-payment.invariant)
      | in_default w ↦ subst (IsPut _ later c.args.outputs.now) (sym w.outputs-is) (put_nothing c.args.outputs.now c.loop-payment.outputs (so None (sym c.due_to.ensures ∙ ap option_copied w.in_default.is)) c.loop-payment.invariant)
    ]
