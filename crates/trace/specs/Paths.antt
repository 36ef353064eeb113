-- The part of a contract that a path leads to, and what transactions leave at it.
use Rattle.std.specs.Prelude.{◌≡◌, List, [], ◌∷◌, Option, Some, Ok}
use Rattle.std.specs.Option.{option_and_then}
use Rattle.contract.specs.declared.interval.Interval.{Interval}
use Rattle.contract.specs.declared.transaction.Transaction.{Transaction}
use Rattle.contract.specs.States.States.{StateMaps}
use Rattle.contract.specs.Tree.{ContractTree}
use Rattle.semantics.specs.Walk.{Standing, answer_of}
use Rattle.next_inputs.specs.Opening.{opening}
use Rattle.analysis_spec.specs.declared.path.PathStep.{PathStep}
use Rattle.analysis_spec.specs.Marks.{led, leads_after}
use Rattle.analysis_spec.specs.Places.{part_behind}
use Rattle.trace.specs.Traces.{left_by}

-- the part that steps lead to, if they lead to one
abbrev pub part_along : ContractTree → List PathStep → Option ContractTree
part_along c [] = Some c
part_along c (step ∷ steps) = option_and_then (λ d. part_along d steps) (part_behind c step)

-- ---- laws

-- what transactions leave of a contract is the part that their path leads to
abbrev pub TransactionsLead : Type 0
TransactionsLead = (a b : Standing) (ts : List Transaction) → left_by 0 a ts ≡ Ok b → part_along a.contract (leads_after [] a ts) ≡ Some b.contract

-- and so it is of the reduction before the inputs
abbrev pub OpeningsLead : Type 0
OpeningsLead = (i : Interval) (s : StateMaps) (c : ContractTree) (a : Standing) → answer_of (opening i s c) ≡ Ok a → part_along c (led [] (opening i s c).turns) ≡ Some a.contract
