-- What finding a case answers, as the definitions see it.
use Rattle.std.specs.Prelude.{List, Option, Some, None, Result, Ok, Err}
use Rattle.contract.specs.Tree.{ActionTree, ContractTree}
use Rattle.semantics.specs.Evaluation.Path.{waits_for}
use Rattle.machine.specs.declared.datum.Datum.{Datum}
use Rattle.table.specs.Nodes.declared.cont.Cont.{Cont}
use Rattle.table.specs.declared.leaves.Leaves128.{Leaves128}
use Rattle.table.specs.Flat.{Flat, cont_tree}

-- the contract that the case leads to
abbrev pub contract_found : Flat → Result (Option Cont) Leaves128 → Result (Option ContractTree) Leaves128
contract_found f (Ok None) = Ok None
contract_found f (Ok (Some k)) = Ok (Some (cont_tree f k.0))
contract_found f (Err e) = Err e

-- the cases that a contract waits for where a datum stands
abbrev pub cases_at : Flat → Datum → List (ActionTree × ContractTree)
cases_at f d = waits_for (cont_tree f d.cont.0)
