-- Worked closings, each computed on the definitions.
use Rattle.std.specs.Prelude.{◌≡◌, pos, [], None, Some, Ok, Err}
use Rattle.contract.specs.declared.fault.SemFault.TheVariants.{Useless, IntervalInPast}
use Rattle.contract.specs.Tree.{ContractTree, notify, true_obs, close, when, no_cases, case_then}
use Rattle.semantics.specs.Evaluation.Timeouts.{last}
use Rattle.contract.specs.States.States.{StateMaps}
use Rattle.semantics.specs.Walk.{standing, answer_of}
use Rattle.semantics.specs.Computed.{computed}
use Rattle.semantics.specs.Rows.{interval, nothing}

-- a When until 100, and behind a notify one until 200
abbrev pub waits_twice : ContractTree
waits_twice = when (case_then (notify true_obs) (when no_cases (pos 200) close) no_cases) (pos 100) close

-- Close has no timeout
abbrev pub CloseHasNone : Type 0
CloseHasNone = last close ≡ None

-- a When until 100 closes from 100 on
abbrev pub WaitingCloses : Type 0
WaitingCloses = (last (when no_cases (pos 100) close) ≡ Some (pos 100)) × ((b : StateMaps) × (answer_of (computed (interval (pos 100) (pos 100)) nothing (when no_cases (pos 100) close) []) ≡ Ok (standing b close)))

-- and not at 99
abbrev pub WaitingStays : Type 0
WaitingStays = answer_of (computed (interval (pos 99) (pos 99)) nothing (when no_cases (pos 100) close) []) ≡ Err Useless

-- a timeout in a case counts too
abbrev pub CaseCountsToo : Type 0
CaseCountsToo = last waits_twice ≡ Some (pos 200)

-- an interval that ends before the minimum time closes nothing
abbrev pub PastIsRefused : Type 0
PastIsRefused = answer_of (computed (interval (pos 100) (pos 200)) (record nothing { min_time = pos 500 }) (when no_cases (pos 100) close) []) ≡ Err IntervalInPast
