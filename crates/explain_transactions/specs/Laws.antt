-- What an explanation tells, in the terms of the transaction function.
use Rattle.std.specs.Prelude.{◌≡◌, ℕ, suc, List, [], take, ◌⊎◌, Some, Ok, Err}
use Rattle.contract.specs.declared.fault.SemFault.TheVariants.{NoMatch, Useless}
use Rattle.contract.specs.declared.input.Input.{Input}
use Rattle.contract.specs.declared.interval.Interval.{Interval}
use Rattle.contract.specs.Tree.{ContractTree}
use Rattle.contract.specs.States.States.{StateMaps}
use Rattle.semantics.specs.Walk.{Standing, ended, answer_of}
use Rattle.semantics.specs.Reduction.{Quiet}
use Rattle.semantics.specs.Transaction.{trimmed}
use Rattle.next_inputs.specs.Opening.{opening}
use Rattle.semantics.specs.Computed.{computed}
use Rattle.analysis_spec.specs.declared.path.PathStep.{PathStep}
use Rattle.analysis_spec.specs.Marks.{led}
use Rattle.trace.specs.Paths.{part_along}
use Rattle.explain_transactions.specs.declared.explanation.Explanation.{Explanation}
use Rattle.explain_transactions.specs.Explained.{Reaches, IsUnmatchedAt, Explains, fault_of}

-- what is explained is refused so
abbrev pub ExplainedIsRefused : Type 0
ExplainedIsRefused = (i : Interval) (s : StateMaps) (c : ContractTree) (xs : List Input) (e : Explanation) → Explains i s c xs e → answer_of (computed i s c xs) ≡ Err (fault_of e)

-- the input that is told is the first that is refused: with those before it alone the transaction is accepted, or does nothing;
-- with it, and none behind it, it is refused for this input
abbrev pub FirstIsTold : Type 0
FirstIsTold = (i : Interval) (s : StateMaps) (c : ContractTree) (xs : List Input) (n : ℕ) (place : List PathStep) (there : Standing) → IsUnmatchedAt i s c xs n place there
    → ((answer_of (computed i s c (take n xs)) ≡ Ok there) ⊎ (answer_of (computed i s c (take n xs)) ≡ Err Useless))
    × (answer_of (computed i s c (take (suc n) xs)) ≡ Err NoMatch)

-- the place that is told is where the contract stands
abbrev pub PlacesStand : Type 0
PlacesStand = (i : Interval) (s : StateMaps) (c : ContractTree) (xs front rest : List Input) (place : List PathStep) (there : Standing) → Reaches i s c xs front rest place there
    → part_along c place ≡ Some there.contract

-- and where the turns of the transaction function lead, where a case is missing
abbrev pub PlacesAreLed : Type 0
PlacesAreLed = (i : Interval) (s : StateMaps) (c : ContractTree) (xs : List Input) (n : ℕ) (place : List PathStep) (there : Standing) → IsUnmatchedAt i s c xs n place there
    → place ≡ led [] (computed i s c xs).turns

-- where it waits, nothing is left to reduce over the interval as it is fixed: so what can be done next there is what its cases take
abbrev pub WaitingIsSettled : Type 0
WaitingIsSettled = (i : Interval) (s : StateMaps) (c : ContractTree) (xs front rest : List Input) (place : List PathStep) (there : Standing) → Reaches i s c xs front rest place there → Quiet (trimmed i s) there.state there.contract
    → opening (trimmed i s) there.state there.contract ≡ ended (Ok there)
