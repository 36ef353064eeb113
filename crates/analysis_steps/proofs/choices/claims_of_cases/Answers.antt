use Rattle.std.proofs.Common.{sym, subst, arith, ap}
use Rattle.std.proofs.lemmas.List.Elements.{All-get_or}
use Rattle.claims.specs.Claims.{owner}
use Rattle.analysis_steps.specs.Chosen.{IsPassed, is_lane}
use Rattle.analysis_steps.proofs.choices.claims_of_cases.Goals as goal

pub loop-case-init : goal.loop-case-init
loop-case-init c = λ n h. ap (owner is_lane n) c.new-claims.ensures.items

pub loop-case-preserved : goal.loop-case-preserved
loop-case-preserved c = λ n h.
    let passed = IsPassed c.args.id.now n in
    c.in_ok-put_case.ensures n (subst passed (sym c.case-item.is) (All-get_or passed c.args.cases.now c.loop-case.case-index c.case-item.result (omega arith) h)) (c.loop-case.invariant n h)
