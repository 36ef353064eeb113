-- From when on all can be taken out of a contract, whoever hands in the transaction.
use Rattle.std.specs.Prelude.{◌≡◌, ℤ, ◌≤ℤ◌, List, [], Option, Result, Ok, Err}
use Rattle.std.specs.List.{AllByRecursion}
use Rattle.contract.specs.declared.fault.SemFault.{SemFault}
use Rattle.contract.specs.declared.fault.SemFault.TheVariants.{Useless}
use Rattle.contract.specs.declared.interval.Interval.{Interval}
use Rattle.contract.specs.declared.transaction.Transaction.{Transaction}
use Rattle.contract.specs.Tree.{ContractTree}
use Rattle.contract.specs.States.States.{StateMaps}
use Rattle.semantics.specs.Evaluation.Timeouts.{last}
use Rattle.semantics.specs.Walk.{Standing, standing, answer_of}
use Rattle.semantics.specs.Computed.{computed}
use Rattle.semantics.specs.Closing.{HasReached, IsSpent}
use Rattle.analysis_spec.specs.Runs.{stands_after}
use Rattle.analysis_spec.specs.Promises.{IsWritten, HasWrittenTimes, StaysWithin128}

-- nothing is left in the contract, or nothing was left where it stood
abbrev pub LeavesNothing : Standing → Result Standing SemFault → Type 0
LeavesNothing a (Ok b) = IsSpent b.state b.contract
LeavesNothing a (Err f) = (f ≡ Useless) × IsSpent a.state a.contract

-- after any run, a transaction without inputs leaves nothing whose interval begins at this time or later, and ends neither before it begins nor
-- before the minimum time, as long as JSON can write all these times. Where there is no time, it may begin at any
abbrev pub ClosesFrom : Option ℤ → StateMaps → ContractTree → Type 0
ClosesFrom time s c =
    (ts : List Transaction) (i : Interval) → AllByRecursion HasWrittenTimes ts → IsWritten i.from → IsWritten i.to →
    let a = stands_after (standing s c) ts in
    HasReached time i.from → i.from ≤ℤ i.to → a.state.min_time ≤ℤ i.to → LeavesNothing a (answer_of (computed i a.state a.contract []))

-- a contract that stays within 128 bits closes from its last timeout on
abbrev pub ClosesFromLast : Type 0
ClosesFromLast = (s : StateMaps) (c : ContractTree) → StaysWithin128 s c → ClosesFrom (last c) s c
