-- No reader needs this file: it serves the proofs of this crate and those above it.
-- What one step of the code answers and leaves, and how it fixes the interval.
use Rattle.std.specs.Prelude.{ℤ, Bool, true, false, List, [], ◌∷◌, if◌then◌else◌, int_lt, int_le, Option, Some, None, Result, Ok, Err}
use Rattle.std.specs.FinMap.{entries}
use Rattle.contract.specs.declared.fault.SemFault.{SemFault}
use Rattle.contract.specs.declared.fault.SemFault.TheVariants.{InvalidInterval, IntervalInPast, Ambiguous, Leaves128}
use Rattle.contract.specs.declared.interval.Interval.{Interval}
use Rattle.contract.specs.declared.payment.Payment.{Payment}
use Rattle.contract.specs.declared.warning.Warning.{Warning}
use Rattle.contract.specs.States.States.{StateMaps}
use Rattle.contract.specs.Tree.{ContractTree, close, pay, if_obs, when, let_be, assert}
use Rattle.evaluation.specs.Numbers.{all_fit}
use Rattle.evaluation.specs.Evaluation.{eval, visited, holds, looked}
use Rattle.evaluation.specs.Parts.{Leads}
use Rattle.semantics.specs.Walk.{Turn, refund, Standing, standing, Walk, ended, answer_of}
use Rattle.semantics.specs.Reduction.{Reduction, choosing, timing_out, binding, asserting}
use Rattle.semantics.specs.Transaction.{trimmed}
use Rattle.semantics.specs.Computed.{refunds, pay_step}

-- what there is to do: all that is left, or a reduction that enters a part of the contract
pub data CodeStep : Type 0 where
  stops : Walk → CodeStep
  goes : Reduction → CodeStep

-- a When waits, goes on with its timeout continuation, or its interval is ambiguous
abbrev pub when_step : Interval → ℤ → Standing → Reduction → CodeStep
when_step i timeout here r = if int_lt i.to timeout then stops (ended (Ok here)) else (if int_le timeout i.from then goes r else stops (ended (Err Ambiguous)))

abbrev pub step : Interval → StateMaps → ContractTree → CodeStep
step i s close = stops (refunds s)
step i s (pay p y t v c) = goes (pay_step s p y t (eval i s v) (visited i s v) c)
step i s (if_obs o c d) = goes (choosing s (holds i s o) (looked i s o) c d)
step i s (when ks timeout c) = when_step i timeout (standing s (when ks timeout c)) (timing_out s c)
step i s (let_be x v c) = goes (binding s x (eval i s v) (visited i s v) c)
step i s (assert o c) = goes (asserting s (holds i s o) (looked i s o) c)

abbrev pub stop_reply : Result Standing SemFault → Result (Option ContractTree) SemFault
stop_reply (Ok a) = Ok None
stop_reply (Err f) = Err f

-- the part that is gone on with, none where all is quiet, or a fault
abbrev pub reply : CodeStep → Result (Option ContractTree) SemFault
reply (stops w) = stop_reply (answer_of w)
reply (goes r) = if all_fit r.numbers then Ok (Some r.contract) else Err Leaves128

abbrev pub end_state : StateMaps → Result Standing SemFault → StateMaps
end_state s (Ok a) = a.state
end_state s (Err f) = s

abbrev pub state_after : StateMaps → CodeStep → StateMaps
state_after s (stops w) = end_state s w.end
state_after s (goes r) = r.state

abbrev pub warnings_of : CodeStep → List Warning
warnings_of (stops w) = w.warnings
warnings_of (goes r) = r.warnings

abbrev pub payments_of : CodeStep → List Payment
payments_of (stops w) = w.payments
payments_of (goes r) = r.payments

-- the turn of a step that enters a part; the turns of one that enters none
abbrev pub turn_of : CodeStep → Turn
turn_of (stops w) = refund
turn_of (goes r) = r.turn

abbrev pub turns_of : CodeStep → List Turn
turns_of (stops w) = w.turns
turns_of (goes r) = r.turn ∷ []

-- a step leads from a place to the part that is gone on with, or back to the place
abbrev pub Moves : {P : Type 0} → (P → Type 0) → (P → Turn → P → Type 0) → P → CodeStep → Option P → Type 0
Moves Contains E p step None = Leads E p (turns_of step) p
Moves Contains E p step (Some q) = Contains q × E p (turn_of step) q

-- .. the step of the contract at a place
abbrev pub MovesFrom : {P : Type 0} → (P → Type 0) → (P → Turn → P → Type 0) → (P → ContractTree) → Interval → StateMaps → P → Option P → Type 0
MovesFrom Contains E tree i s p o = Moves Contains E p (step i s (tree p)) o

abbrev pub is_none_left : {A : Type 0} → List A → Bool
is_none_left [] = true
is_none_left (x ∷ xs) = false

-- whether nothing is left to reduce
abbrev pub is_quiet : Interval → StateMaps → ContractTree → Bool
is_quiet i s close = is_none_left (entries s.accounts)
is_quiet i s (when ks timeout c) = int_lt i.to timeout
is_quiet i s _ = false

-- why the interval is refused, or how it is fixed
abbrev pub fixed : Interval → StateMaps → Result Interval SemFault
fixed i s = if int_lt i.to i.from then Err InvalidInterval else (if int_lt i.to s.min_time then Err IntervalInPast else Ok (trimmed i s))
