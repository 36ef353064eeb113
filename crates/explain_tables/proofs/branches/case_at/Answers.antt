use Rattle.std.proofs.Common.{refl, ap, ◌∙◌, arith, Option, Some}
use Rattle.contract.specs.declared.tree.Case.{Case}
use Rattle.contract.specs.Tree.{ContractTree, contract_tree}
use Rattle.explain_tables.proofs.DepthLemmas.{behind_at}
use Rattle.explain_tables.proofs.branches.case_at.Goals as goal

pub returns-then-index-cases : goal.returns-then-index-cases
returns-then-index-cases c =
    let at = behind_at c.args.cases.now c.args.index c.index-cases-index.result (omega (arith, c.if-index-cases.true)) c.index-cases-index.is in (
      c.args.index,
      refl,
      at ∙ ap (λ (k : Case). let o : Option ContractTree = Some (contract_tree k.then) in o) c.index-cases-index.is,
    )
