use Rattle.std.proofs.Common.{◌∙◌, sym, ap, ◌&&◌}
use Rattle.analysis_steps.proofs.EarlierLemmas.{agree_so}
use Rattle.analysis_steps.proofs.earlier.agree.Goals as goal

pub returns : goal.returns
returns c = λ h.
    let a = c.args in
    agree_so a.owner.now a.payer.now a.token.now a.of.now a.by.now a.other.now c.same-owners.result c.same-payers.result c.same-tokens.result c.same-owners.ensures c.same-payers.ensures c.same-tokens.ensures
    (ap (λ b. c.same-owners.result && b) (sym c.both.ensures) ∙ (sym c.both-2.ensures ∙ h))
