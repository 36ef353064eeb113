use Rattle.std.proofs.Common.{refl, rules, FitsSigned}
use Rattle.std.specs.Int.{w128}
use Rattle.std.proofs.lemmas.Int.{to_z-of_z}
use Rattle.analysis_steps.proofs.ChosenLemmas.{not_owned, owned}
use Rattle.analysis_steps.proofs.choices.wider_by.Goals as goal

pub returns-then-claim-ne1 : goal.returns-then-claim-ne1
returns-then-claim-ne1 c = λ n h. not_owned n c.args.range c.args.claim (λ e. c.if-claim-ne1.true e) h

pub returns : goal.returns
returns c = λ n h.
    let f : FitsSigned w128 c.args.claim.from = search rules in
    let g : FitsSigned w128 c.args.claim.to = search rules in
    let wider = rw (to_z-of_z w128 c.args.claim.from f, to_z-of_z w128 c.args.claim.to g) at c.wider.ensures in
    wider n (owned n c.args.range c.args.claim (record { from = c.args.claim.from; to = c.args.claim.to }) refl refl h)
