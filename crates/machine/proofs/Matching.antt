-- Finding a case, with the one fault that it has.
use Rattle.std.proofs.Common.{◌≡◌, ℤ, List, Option, Some, None, Ok, Err}
use Rattle.contract.specs.declared.fault.SemFault.{SemFault}
use Rattle.contract.specs.Tree.{ContractTree}
use Rattle.semantics.specs.Evaluation.Numbers.{within}
use Rattle.table.specs.Nodes.declared.cont.Cont.{Cont}
use Rattle.semantics.specs.Answer.{tree_of_next}
use Rattle.table.specs.declared.leaves.Leaves128.{Leaves128}
use Rattle.table.specs.Flat.{Flat, cont_tree}
use Rattle.table.specs.Leaves.{fitting}
use Rattle.table.proofs.LeavesLaws.{fitting_ok, fitting_err}
use Rattle.machine.specs.Matched.{contract_found}

pub found_ok : (f : Flat) (found : Option Cont) (ns : List ℤ) (x : Option ContractTree) → tree_of_next (λ k. cont_tree f k.0) (Ok found) ≡ within ns x → contract_found f (Ok found) ≡ fitting ns x
found_ok f None ns x h = fitting_ok ns x None h
found_ok f (Some k) ns x h = fitting_ok ns x (Some (cont_tree f k.0)) h

pub found_err : (f : Flat) (e : SemFault) (l : Leaves128) (ns : List ℤ) (x : Option ContractTree) → tree_of_next (λ (k : Cont). cont_tree f k.0) (Err e) ≡ within ns x → contract_found f (Err l) ≡ fitting ns x
found_err f e l ns x h = fitting_err ns x e l h
