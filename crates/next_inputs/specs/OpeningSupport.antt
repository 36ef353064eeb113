-- No reader needs this file: it serves a private function.
use Rattle.std.specs.Prelude.{◌≡◌, Bool, true, false, [], Option, Some, None}
use Rattle.std.specs.Result.{result_err}
use Rattle.contract.specs.declared.fault.SemFault.{SemFault}
use Rattle.contract.specs.declared.fault.SemFault.TheVariants.{Leaves128}
use Rattle.contract.specs.declared.interval.Interval.{Interval}
use Rattle.contract.specs.Tree.{ContractTree}
use Rattle.contract.specs.States.States.{StateMaps}
use Rattle.semantics.specs.Walk.{answer_of}
use Rattle.semantics.specs.Computed.{settled}
use Rattle.next_inputs.specs.declared.reduction.Opened.{Opened}

-- nothing is reduced: the contract stands at its place, in this state
abbrev pub untouched : {P : Type 0} → StateMaps → P → Opened P
untouched s p = record { outcome = record { warnings = []; payments = []; state = s; place = p }; can_reduce = false }

-- a contract settles in an interval without a fault, whatever the state is
abbrev pub SettlesAnyhow : Interval → ContractTree → Type 0
SettlesAnyhow j c = (s : StateMaps) → result_err (answer_of (settled j s c)) ≡ None

-- what is told where numbers fit, or don't
abbrev pub refused_unless : Bool → Option SemFault
refused_unless true = None
refused_unless false = Some Leaves128
