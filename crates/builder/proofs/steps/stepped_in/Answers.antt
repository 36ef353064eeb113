use Rattle.std.proofs.Common.{sym, ◌∙◌, ap, drop, ◌+◌}
use Rattle.builder_spec.specs.Parts.{stepped_in}
use Rattle.builder.proofs.StandingLemmas.{behind, stepped_more}
use Rattle.builder.proofs.steps.stepped_in.Goals as goal

pub loop-part-preserved : goal.loop-part-preserved
loop-part-preserved c =
    let ps = c.args.parts.now in
    let i = c.loop-part.part-index in
    c.loop-part.invariant
    ∙ stepped_more ps i c.part-item.result c.loop-part.steps.items c.in-Some.step c.loop-part-test.true c.part-item.is (sym c.in_ok-stepped_at.ensures ∙ c.in-Some.is)
    ∙ ap (λ ss. behind ss (stepped_in (drop (i + 1) ps))) (sym c.in_ok-push-in-Some.ensures.items)
