use Rattle.std.proofs.Common.{◌++◌, drop, ◌+◌, sym, ◌∙◌, ap, append_assoc}
use Rattle.builder_spec.specs.Roles.declared.published.Published.{Published}
use Rattle.builder_spec.specs.Steps.{Stepped, roles_of}
use Rattle.builder_spec.specs.Parts.{all_roles}
use Rattle.coin_selection.proofs.ListLaws.{here}
use Rattle.builder.proofs.steps.all_roles.Goals as goal

pub loop-step-preserved : goal.loop-step-preserved
loop-step-preserved c =
    let ss = c.args.steps.now in
    let s = c.step-item.result in
    let i = c.loop-step.step-index in
    let old = c.loop-step.roles.items in
    let rest = all_roles (drop (i + 1) ss) in
    ap (λ ts. ts ++ rest)
    (c.in_ok-put_roles.ensures.roles
    ∙ ap (λ (p : Published). old ++ roles_of p.currency c.step.inside.inputs.now) c.published.ensures
    ∙ ap (λ (x : Stepped). old ++ roles_of s.thread.shown.published.currency x.inputs) c.step.view_is)
    ∙ append_assoc old (roles_of s.thread.shown.published.currency s.inputs) rest
    ∙ ap (λ ts. old ++ all_roles ts) (sym (here ss i s c.loop-step-test.true c.step-item.is))
    ∙ c.loop-step.invariant
