-- Places in a contract.
use Rattle.std.specs.Prelude.{ℕ, zero, suc, List, [], ◌∷◌, Option, Some, None}
use Rattle.std.specs.Option.{IsSomeAnd}
use Rattle.contract.specs.Tree.{ContractTree, CaseTrees, pay, if_obs, when, let_be, assert, no_cases, case_then}
use Rattle.analysis_spec.specs.declared.path.PathStep.{PathStep}
use Rattle.analysis_spec.specs.declared.path.PathStep.TheVariants.{Then, Else, TimeoutContinuation, Case}

-- what follows the case at a place
abbrev pub behind_case : CaseTrees → ℕ → Option ContractTree
behind_case no_cases n = None
behind_case (case_then a c ks) zero = Some c
behind_case (case_then a c ks) (suc n) = behind_case ks n

-- the part of a contract that a step leads to, if there is one. An action has none
abbrev pub part_behind : ContractTree → PathStep → Option ContractTree
part_behind (pay p y t v c) Then = Some c
part_behind (if_obs o c d) Then = Some c
part_behind (if_obs o c d) Else = Some d
part_behind (when ks t c) TimeoutContinuation = Some c
part_behind (when ks t c) (Case n) = behind_case ks n
part_behind (let_be x v c) Then = Some c
part_behind (assert o c) Then = Some c
part_behind c step = None

-- a path leads to a part of a contract
abbrev pub IsPart : List PathStep → ContractTree → Type 0
IsPart [] c = Unit {0}
IsPart (step ∷ path) c = IsSomeAnd (part_behind c step) (IsPart path)
