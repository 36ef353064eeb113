-- A part of a transaction: what it visits, says and pays, the turns that it takes, and how it ends.
use Rattle.std.specs.Prelude.{◌≡◌, ℤ, List, [], ◌++◌, if◌then◌else◌, Result, Ok, Err}
use Rattle.contract.specs.declared.fault.SemFault.{SemFault}
use Rattle.contract.specs.declared.fault.SemFault.TheVariants.{Leaves128}
use Rattle.contract.specs.declared.warning.Warning.{Warning}
use Rattle.contract.specs.declared.payment.Payment.{Payment}
use Rattle.contract.specs.States.States.{StateMaps}
use Rattle.contract.specs.Tree.{ContractTree}
use Rattle.evaluation.specs.Numbers.{all_fit}
pub use Rattle.evaluation.specs.Path.{Turn, refund, next, then_branch, else_branch, timed_out, in_case}

-- where a contract stands
pub record Standing : Type 0 where
  pub state : StateMaps
  pub contract : ContractTree

abbrev pub standing : StateMaps → ContractTree → Standing
standing s c = record { state = s; contract = c }

pub record Walk : Type 0 where
  pub numbers : List ℤ
  pub warnings : List Warning
  pub payments : List Payment
  pub turns : List Turn
  pub end : Result Standing SemFault

-- nothing is done
abbrev pub ended : Result Standing SemFault → Walk
ended end = record { numbers = []; warnings = []; payments = []; turns = []; end = end }

-- one part, and then another
abbrev pub joined : Walk → Walk → Walk
joined w v =
    record { numbers = w.numbers ++ v.numbers; warnings = w.warnings ++ v.warnings; payments = w.payments ++ v.payments; turns = w.turns ++ v.turns; end = v.end }

-- one part and, where it ends well, the next from there
abbrev pub then_from : Walk → Result Standing SemFault → (Standing → Walk) → Walk
then_from w (Ok a) f = joined w (f a)
then_from w (Err e) f = w

abbrev pub then_walk : Walk → (Standing → Walk) → Walk
then_walk w f = then_from w w.end f

-- the same, where the next part is told by a relation
abbrev pub ThenFrom : Walk → Result Standing SemFault → (Standing → Walk → Type 0) → Walk → Type 0
ThenFrom u (Ok a) R w = (v : Walk) × R a v × (w ≡ joined u v)
ThenFrom u (Err e) R w = w ≡ u

abbrev pub Then : Walk → (Standing → Walk → Type 0) → Walk → Type 0
Then u R w = ThenFrom u u.end R w

-- the answer of a part: its end, where all its numbers fit
abbrev pub answer_of : Walk → Result Standing SemFault
answer_of w = if all_fit w.numbers then w.end else Err Leaves128
