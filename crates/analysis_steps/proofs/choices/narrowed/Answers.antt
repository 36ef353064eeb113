use Rattle.std.proofs.Common.{sym, subst, arith}
use Rattle.std.proofs.lemmas.List.Elements.{All-get_or}
use Rattle.analysis_steps.specs.Chosen.{IsPassed}
use Rattle.analysis_steps.proofs.choices.narrowed.Goals as goal

pub loop-case-preserved : goal.loop-case-preserved
loop-case-preserved c = λ n h k.
    let passed = IsPassed c.args.id.now n in
    c.narrowed_by_case-left.ensures n (subst passed (sym c.case-item.is) (All-get_or passed c.args.cases.now c.loop-case.case-index c.case-item.result (omega arith) h)) (c.loop-case.invariant n h k)
