use Rattle.std.proofs.Common.{◌≡◌, ◌∙◌, ◌+◌, ◌≤◌, length, ap, ◌⊎◌, inl, inr, Option, Some, arith}
use Rattle.builder_spec.specs.declared.fault.BuildFault.{BuildFault}
use Rattle.coin_selection.proofs.SharesLemmas.{not_over, over_much}
use Rattle.coin_selection.proofs.limits.shares_within.Goals as goal

pub returns-in-Ok-clause-passes : goal.returns-in-Ok-clause-passes
returns-in-Ok-clause-passes c =
    let few : length c.args.first.now + length c.args.others.now ≤ 256 = omega (arith, c.if-first-gt-MOST.false, c.if-others-first.false) in
    not_over c.args.first.now c.args.others.now c.requires.first c.requires.others few c.in-Ok.ensures.fits

pub returns-in-Err-clause-passes : goal.returns-in-Err-clause-passes
returns-in-Err-clause-passes c = λ ne. elim c.in-Err.ensures.err [
  | inl m ↦ absurd (ne (c.build_fault.ensures.memory m))
  | inr l ↦ over_much c.args.first.now c.args.others.now c.requires.first c.requires.others l.1 ∙ ap (λ (f : BuildFault). Some f) (Rattle.std.proofs.Common.sym (c.build_fault.ensures.large l.0))
]
