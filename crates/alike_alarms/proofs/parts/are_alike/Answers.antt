use Rattle.std.proofs.Common.{List, ap, ◌∙◌}
use Rattle.contract.specs.Tree.{contract_tree}
use Rattle.analysis_spec.specs.declared.path.PathStep.{PathStep}
use Rattle.alike_alarms.specs.Alike.{part_at}
use Rattle.alike_alarms.proofs.PartLemmas.{alike_at}
use Rattle.alike_alarms.proofs.parts.are_alike.Goals as goal

pub returns-in-Some-other : goal.returns-in-Some-other
returns-in-Some-other c =
    let tree = contract_tree c.args.contract.now in
    let here = (rw c.in-Some.is at c.part_at-one.ensures) ∙ ap (λ (p : List PathStep). part_at p tree) c.as_slice.ensures in
    let there = (rw c.in-Some-other.is at c.part_at-other.ensures) ∙ ap (λ (p : List PathStep). part_at p tree) c.as_slice-2.ensures in
    λ h. alike_at tree c.args.a.now c.args.b.now c.in-Some.one c.in-Some-other.other (c.is_same_kind-same.ensures c.if-not-same.false) here there (c.is_same.ensures h)
