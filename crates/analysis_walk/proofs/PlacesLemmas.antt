-- What follows a case.
use Rattle.std.proofs.Common.{◌≡◌, ℕ, zero, suc, ◌<◌, ◌≤◌, List, [], ◌∷◌, map, length, refl, sym, ap, ◌∙◌, Option, Some, None, arith}
use Rattle.std.proofs.Math.ListN.{get_or}
use Rattle.contract.specs.declared.tree.Case.{Case}
use Rattle.contract.specs.Tree.{ActionTree, ContractTree, contract_tree, case_tree, case_trees}
use Rattle.contract.proofs.TreeLaws.{case_tree-parts}
use Rattle.analysis_spec.specs.Places.{behind_case}

pub behind_at : (cs : List Case) (i : ℕ) (k : Case) → i < length cs → k ≡ get_or cs i k → behind_case (case_trees (map case_tree cs)) i ≡ Some (contract_tree k.then)
behind_at [] i k l is = absurd (omega arith)
behind_at (x ∷ cs) zero k l is =
    ap (λ (z : ActionTree × ContractTree). let o : Option ContractTree = Some z.1 in o) (case_tree-parts x) ∙ ap (λ (c : Case). let o : Option ContractTree = Some (contract_tree c.then) in o) (sym is)
behind_at (x ∷ cs) (suc i) k l is = behind_at cs i k (omega arith) is

pub behind_over : (cs : List Case) (i : ℕ) → length cs ≤ i → behind_case (case_trees (map case_tree cs)) i ≡ None
behind_over [] i l = refl
behind_over (x ∷ cs) zero l = absurd (omega arith)
behind_over (x ∷ cs) (suc i) l = behind_over cs i (omega arith)
