-- What follows a case that an input takes.
use Rattle.std.specs.Prelude.{◌≡◌, ℕ, [], ◌∷◌, Option, Some, Ok}
use Rattle.std.specs.Result.{result_err}
use Rattle.contract.specs.declared.fault.SemFault.{SemFault}
use Rattle.contract.specs.declared.input.Input.{Input}
use Rattle.contract.specs.declared.interval.Interval.{Interval}
use Rattle.contract.specs.States.States.{StateMaps}
use Rattle.contract.specs.Tree.{ContractTree}
use Rattle.semantics.specs.Walk.{standing, answer_of}
use Rattle.semantics.specs.Transaction.{trimmed}
use Rattle.semantics.specs.Computed.{computed}
use Rattle.next_inputs.specs.Opening.{opening, next_case}

-- behind the case at an index what follows is refused so, or it isn't: from wherever a transaction settles to this contract
-- and this state in this interval, and the input takes the case, that is the fault of the transaction with this input alone
abbrev pub IsRefusedBehind : Interval → StateMaps → ContractTree → ℕ → Input → Option SemFault → Type 0
IsRefusedBehind j s c n x refused =
    (i : Interval) (from : StateMaps) (whole : ContractTree) → answer_of (opening i from whole) ≡ Ok (standing s c) → trimmed i from ≡ j
    → next_case i from whole x ≡ Some n → refused ≡ result_err (answer_of (computed i from whole (x ∷ [])))
