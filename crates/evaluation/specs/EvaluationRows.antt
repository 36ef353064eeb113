-- Worked evaluations, in every interval and state, and what holds of every quotient.
use Rattle.std.specs.Prelude.{◌≡◌, ℕ, suc, ◌/◌, ◌^◌, ℤ, pos, neg_ℤ, Bool, true, false, List, [], ◌∷◌, Result, Ok, Err, None}
use Rattle.std.specs.FinMap.{get}
use Rattle.contract.specs.Names.declared.choice_id.ChoiceId.{ChoiceId}
use Rattle.contract.specs.Names.declared.party.Party.{Party}
use Rattle.contract.specs.Names.declared.token.Token.{Token}
use Rattle.contract.specs.declared.fault.SemFault.{SemFault}
use Rattle.contract.specs.declared.fault.SemFault.TheVariants.{Leaves128}
use Rattle.contract.specs.declared.interval.Interval.{Interval}
use Rattle.contract.specs.States.States.{StateMaps}
use Rattle.contract.specs.Tree.{ValueTree, available_money, constant, add_value, mul_value, div_value, choice_value, use_value, cond_value}
use Rattle.contract.specs.Tree.{ObservationTree, and_obs, or_obs, value_ge, true_obs, false_obs}
use Rattle.evaluation.specs.Numbers.{within}
use Rattle.evaluation.specs.Evaluation.{quotient, eval, holds, visited, looked}

-- ---- quotients

-- a quotient of numbers from 0 up is rounded down, and by 0 it is 0
abbrev pub QuotientsRoundDown : Type 0
QuotientsRoundDown = (a b : ℕ) → (quotient (pos a) (pos (suc b)) ≡ pos (a / suc b)) × (quotient (pos a) (pos 0) ≡ pos 0)

-- and the sign of either side moves out: so every quotient is truncated toward zero
abbrev pub SignsMoveOut : Type 0
SignsMoveOut = (a b : ℤ) → (quotient (neg_ℤ a) b ≡ neg_ℤ (quotient a b)) × (quotient a (neg_ℤ b) ≡ neg_ℤ (quotient a b))

-- ---- values and observations

-- in every interval and state a value has this number, or is refused; an observation likewise
abbrev pub HasNumber : ValueTree → Result ℤ SemFault → Type 0
HasNumber v answer = (i : Interval) (s : StateMaps) → within (visited i s v) (eval i s v) ≡ answer

abbrev pub HasTruth : ObservationTree → Result Bool SemFault → Type 0
HasTruth o answer = (i : Interval) (s : StateMaps) → within (looked i s o) (holds i s o) ≡ answer

-- -2^63 times a number, twice: 2^127, one above the greatest number of 128 bits, and -2^127, the least
abbrev pub large : ℤ → ValueTree
large n = mul_value (mul_value (constant (neg_ℤ (pos (2 ^ 63)))) (constant n)) (constant (pos 2))

abbrev pub too_large : ValueTree
too_large = large (neg_ℤ (pos (2 ^ 63)))

abbrev pub least : ValueTree
least = large (pos (2 ^ 63))

abbrev pub MinusSevenByTwo : Type 0
MinusSevenByTwo = HasNumber (div_value (constant (neg_ℤ (pos 7))) (constant (pos 2))) (Ok (neg_ℤ (pos 3)))

abbrev pub SevenByZero : Type 0
SevenByZero = HasNumber (div_value (constant (pos 7)) (constant (pos 0))) (Ok (pos 0))

abbrev pub LeastFits : Type 0
LeastFits = HasNumber least (Ok (neg_ℤ (pos (2 ^ 127))))

abbrev pub LeastByMinusOneLeaves : Type 0
LeastByMinusOneLeaves = HasNumber (div_value least (constant (neg_ℤ (pos 1)))) (Err Leaves128)

-- a number on the way leaves 128 bits, though the result would fit
abbrev pub OnTheWayLeaves : Type 0
OnTheWayLeaves = HasNumber (add_value too_large least) (Err Leaves128)

-- the branch that isn't taken is left out
abbrev pub CondLeavesOut : Type 0
CondLeavesOut = HasNumber (cond_value true_obs (constant (pos 1)) too_large) (Ok (pos 1)) × HasNumber (cond_value false_obs (constant (pos 1)) too_large) (Err Leaves128)

-- the right side is left out where the left one decides
abbrev pub AndLeavesOut : Type 0
AndLeavesOut = HasTruth (and_obs false_obs (value_ge too_large (constant (pos 0)))) (Ok false) × HasTruth (and_obs true_obs (value_ge too_large (constant (pos 0)))) (Err Leaves128)

abbrev pub OrLeavesOut : Type 0
OrLeavesOut = HasTruth (or_obs true_obs (value_ge too_large (constant (pos 0)))) (Ok true) × HasTruth (or_obs false_obs (value_ge too_large (constant (pos 0)))) (Err Leaves128)

-- operands from the left, then the result
abbrev pub OperandsComeFirst : Type 0
OperandsComeFirst = (i : Interval) (s : StateMaps) (a b : ℤ) → visited i s (div_value (constant a) (constant b)) ≡ a ∷ b ∷ quotient a b ∷ []

-- what is absent is 0
abbrev pub AbsentIsZero : Type 0
AbsentIsZero = (i : Interval) (s : StateMaps) →
    ((p : Party) (t : Token) → get s.accounts (record { owner = p; token = t }) ≡ None → eval i s (available_money p t) ≡ pos 0)
    × ((id : ChoiceId) → get s.choices id ≡ None → eval i s (choice_value id) ≡ pos 0)
    × ((x : List ℕ) → get s.bound_values x ≡ None → eval i s (use_value x) ≡ pos 0)
