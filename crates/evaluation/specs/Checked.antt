-- No reader needs this file but for `checked`, which the calls of the arithmetic name: it serves proofs of this crate and above.
-- Evaluation that stops at the first number that leaves 128 bits.
use Rattle.std.specs.Prelude.{ℤ, ◌+ℤ◌, ◌-ℤ◌, ◌*ℤ◌, neg_ℤ, int_le, int_lt, Bool, true, false, not, if◌then◌else◌, is_some, Result, Ok, Err}
use Rattle.std.specs.Ordering.{int_eq}
use Rattle.std.specs.FinMap.{get}
use Rattle.contract.specs.Collections.Answers.{◌>>=◌}
use Rattle.contract.specs.declared.fault.SemFault.{SemFault}
use Rattle.contract.specs.declared.fault.SemFault.TheVariants.{Leaves128}
use Rattle.contract.specs.declared.interval.Interval.{Interval}
use Rattle.contract.specs.States.States.{StateMaps, money_of}
use Rattle.contract.specs.Tree.{ValueTree, available_money, constant, neg_value, add_value, sub_value, mul_value, div_value, choice_value, time_interval_start, time_interval_end, use_value, cond_value}
use Rattle.contract.specs.Tree.{ObservationTree, and_obs, or_obs, not_obs, chose_something, value_ge, value_gt, value_lt, value_le, value_eq, true_obs, false_obs}
use Rattle.evaluation.specs.Numbers.{fits}
use Rattle.evaluation.specs.Evaluation.{quotient, chosen, bound_to}

-- a number, where it lies within 128 bits
unfoldable pub checked : ℤ → Result ℤ SemFault
checked n = if fits n then Ok n else Err Leaves128

-- both answers, or the fault of the first that has one
abbrev pub both : {A B : Type 0} → Result A SemFault → Result B SemFault → Result (A × B) SemFault
both r q = do
  x ← r
  y ← q
  Ok (x, y)

abbrev mutual
  pub eval128 : Interval → StateMaps → ValueTree → Result ℤ SemFault
  eval128 i s (available_money p t) = checked (money_of s (record { owner = p; token = t }))
  eval128 i s (constant n) = checked n
  eval128 i s (neg_value v) = do
    x ← eval128 i s v
    checked (neg_ℤ x)
  eval128 i s (add_value v w) = do
    p ← both (eval128 i s v) (eval128 i s w)
    checked (p.0 +ℤ p.1)
  eval128 i s (sub_value v w) = do
    p ← both (eval128 i s v) (eval128 i s w)
    checked (p.0 -ℤ p.1)
  eval128 i s (mul_value v w) = do
    p ← both (eval128 i s v) (eval128 i s w)
    checked (p.0 *ℤ p.1)
  eval128 i s (div_value v w) = do
    p ← both (eval128 i s v) (eval128 i s w)
    checked (quotient p.0 p.1)
  eval128 i s (choice_value id) = checked (chosen s id)
  eval128 i s time_interval_start = checked i.from
  eval128 i s time_interval_end = checked i.to
  eval128 i s (use_value x) = checked (bound_to s x)
  eval128 i s (cond_value o v w) = do
    t ← holds128 i s o
    (if t then eval128 i s v else eval128 i s w)

  pub holds128 : Interval → StateMaps → ObservationTree → Result Bool SemFault
  holds128 i s (and_obs o q) = do
    t ← holds128 i s o
    (if t then holds128 i s q else Ok false)
  holds128 i s (or_obs o q) = do
    t ← holds128 i s o
    (if t then Ok true else holds128 i s q)
  holds128 i s (not_obs o) = do
    t ← holds128 i s o
    Ok (not t)
  holds128 i s (chose_something id) = Ok (is_some (get s.choices id))
  holds128 i s (value_ge v w) = do
    p ← both (eval128 i s v) (eval128 i s w)
    Ok (int_le p.1 p.0)
  holds128 i s (value_gt v w) = do
    p ← both (eval128 i s v) (eval128 i s w)
    Ok (int_lt p.1 p.0)
  holds128 i s (value_lt v w) = do
    p ← both (eval128 i s v) (eval128 i s w)
    Ok (int_lt p.0 p.1)
  holds128 i s (value_le v w) = do
    p ← both (eval128 i s v) (eval128 i s w)
    Ok (int_le p.0 p.1)
  holds128 i s (value_eq v w) = do
    p ← both (eval128 i s v) (eval128 i s w)
    Ok (int_eq p.0 p.1)
  holds128 i s true_obs = Ok true
  holds128 i s false_obs = Ok false
