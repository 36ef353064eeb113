use Rattle.std.proofs.Common.{arith, rules, ◌≤◌}
use Rattle.std.specs.Prelude.{IsTrue}
use Rattle.contract.specs.Tree.{action_tree, contract_tree}
use Rattle.table.specs.Heights.{case_over, contract_height}
use Rattle.lowering.proofs.Cases.{high-next}
use Rattle.lowering.proofs.sizes.«+is_low_contract».Goals as goal

pub are_low_cases-loop-case-preserved : goal.are_low_cases-loop-case-preserved
are_low_cases-loop-case-preserved t c =
    let k = c.case-item.result in
    let n = high-next c.as_slice-case-items.result.now c.loop-case.case-index k c.loop-case-test.true c.case-item.is in
    let low : case_over (action_tree k.action) (contract_height (contract_tree k.then)) ≤ c.args.room = c.is_low_case.ensures.0 (search rules) in
    record { all = λ l. c.loop-case.invariant.all (omega (arith, n, low, l)); rest = omega (arith, n, c.loop-case.invariant.rest) }

pub are_low_cases-returns-then-not-is_low_case : goal.are_low_cases-returns-then-not-is_low_case
are_low_cases-returns-then-not-is_low_case t c =
    let k = c.case-item.result in
    let n = high-next c.as_slice-case-items.result.now c.loop-case.case-index k c.loop-case-test.true c.case-item.is in (
      (λ h. absurd (search (rules, h))),
      (λ l. let low : IsTrue c.is_low_case.result = c.is_low_case.ensures.1 (omega (arith, n, c.loop-case.invariant.rest, l)) in search (rules, low)),
    )
