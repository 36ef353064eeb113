use Rattle.std.proofs.Common.{◌∷◌, drop, sym, ◌∙◌, ap, subst, arith}
use Rattle.coin_selection.specs.RequiredSupport.{required_amount, IsMissing}
use Rattle.coin_selection.proofs.ListLaws.{back}
use Rattle.coin_selection.proofs.RequiredLemmas.{add_role}
use Rattle.coin_selection.proofs.requirements.add_roles.Goals as goal

pub loop-i-preserved : goal.loop-i-preserved
loop-i-preserved c = λ ns s.
    let rs = c.args.roles.now in
    let i = c.loop-i.i in
    let at = back rs i c.index-roles-i.result (omega (arith, c.loop-i-test.true)) (omega (arith, c.loop-i.auto.i)) c.index-roles-i.is in
    subst (λ qs. IsMissing (required_amount qs ns) c.add_one.new.self) (ap (λ r. r ∷ drop i rs) c.in_ok-to_token.ensures ∙ sym at)
    (add_role c.loop-i.missing c.add_one.new.self (drop i rs) ns c.in_ok-to_token.field-0 (c.loop-i.invariant ns s) c.in_ok-add_one.ensures.one)
