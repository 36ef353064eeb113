use Rattle.std.proofs.Common.{◌+◌, ◌<◌, ◌≤◌, ap, sym, subst, ◌∙◌, arith, Option, Some}
use Rattle.contract.specs.declared.tree.Case.{Case}
use Rattle.contract.specs.Tree.{ContractTree, contract_tree}
use Rattle.compiler.specs.Table.Heights.{contract_height}
use Rattle.explain_tables.specs.declared.branches.Branch.{Branch}
use Rattle.explain_tables.proofs.DepthLemmas.{behind_at, low_more, low_all}
use Rattle.explain_tables.proofs.depths.high_case.Goals as goal

pub returns-in-Some : goal.returns-in-Some
returns-in-Some c =
    let e = sym c.in-Some.ensures.0 in
    let at = behind_at c.args.cases.now c.loop-index.index c.index-cases-index.result (omega (arith, c.loop-index-test.true)) c.index-cases-index.is in (
      c.loop-index.index,
      ap (λ (h : Branch). h.step) (sym e),
      at ∙ ap (λ (k : Case). let o : Option ContractTree = Some (contract_tree k.then) in o) c.index-cases-index.is ∙ ap (λ (h : Branch). let o : Option ContractTree = Some (contract_tree h.part.now) in o) e,
      subst (λ (h : Branch). c.args.room < 2 + contract_height (contract_tree h.part.now)) e c.in-Some.ensures.1,
    )

pub loop-index-preserved : goal.loop-index-preserved
loop-index-preserved c =
    low_more c.args.room c.args.cases.now c.loop-index.index c.index-cases-index.result (omega (arith, c.loop-index-test.true)) c.index-cases-index.is c.loop-index.invariant
    (subst (λ (k : Case). 2 + contract_height (contract_tree k.then) ≤ c.args.room) (sym c.index-cases-index.is) c.in_default.ensures)

pub returns : goal.returns
returns c = low_all c.args.room c.args.cases.now c.loop-index.index (omega (arith, c.loop-index-test.false)) c.loop-index.invariant
