-- Where a contract stands when the inputs of a transaction come (Marlowe specification version 3, "Compute transaction"), and
-- which case one input takes there.
use Rattle.std.specs.Prelude.{ℕ, ℤ, pos, ◌-ℤ◌, int_lt, if◌then◌else◌, List, [], Option, Some, None, Result, Ok, Err, IsOk}
use Rattle.contract.specs.declared.fault.SemFault.{SemFault}
use Rattle.contract.specs.declared.fault.SemFault.TheVariants.{InvalidInterval, IntervalInPast}
use Rattle.contract.specs.declared.interval.Interval.{Interval}
use Rattle.contract.specs.declared.outcome.Outcome.{Outcome}
use Rattle.contract.specs.States.States.{StateMaps}
use Rattle.contract.specs.Tree.{ContractTree, when}
use Rattle.contract.specs.declared.input.Input.{Input}
use Rattle.semantics.specs.Evaluation.Path.{waits_for}
use Rattle.semantics.specs.Walk.{Turn, Standing, standing, Walk, ended, answer_of}
use Rattle.semantics.specs.Transaction.{trimmed, begun}
use Rattle.semantics.specs.Computed.{settled, computed}
use Rattle.next_inputs.specs.Taking.{taken_case}

-- the interval is fixed and the contract settles
abbrev pub opening : Interval → StateMaps → ContractTree → Walk
opening i s c = if int_lt i.to i.from then ended (Err InvalidInterval) else (if int_lt i.to s.min_time then ended (Err IntervalInPast) else settled (trimmed i s) (begun i s) c)

-- the turns of the opening lead from a place to that of an outcome
abbrev pub OpeningLeads : {P : Type 0} → (P → List Turn → P → Type 0) → (P → ContractTree) → Interval → StateMaps → P → Outcome P → Type 0
OpeningLeads leads tree i s from o = leads from (opening i s (tree from)).turns o.place

-- how an outcome stands whose place has a tree
abbrev pub standing_at : {P : Type 0} → (P → ContractTree) → Outcome P → Standing
standing_at tree o = standing o.state (tree o.place)

-- a transaction without inputs is accepted
abbrev pub AcceptsNoInputs : Interval → StateMaps → ContractTree → Type 0
AcceptsNoInputs i s c = IsOk (answer_of (computed i s c []))

-- the case that an input takes where a contract stands; none where there is a fault
abbrev pub case_from : Interval → Input → Result Standing SemFault → Option ℕ
case_from i x (Ok a) = taken_case i a.state x (waits_for a.contract)
case_from i x (Err f) = None

-- the case that one input takes in a transaction over an interval
abbrev pub next_case : Interval → StateMaps → ContractTree → Input → Option ℕ
next_case i s c x = case_from (trimmed i s) x (answer_of (opening i s c))

-- the last moment at which a When waits
abbrev pub waits_until : ContractTree → Option ℤ
waits_until (when ks timeout c) = Some (timeout -ℤ pos 1)
waits_until c = None
