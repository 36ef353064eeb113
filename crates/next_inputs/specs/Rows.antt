-- Worked rows of what can be done next, computed on the definitions.
use Rattle.std.specs.Prelude.{◌≡◌, ◌-◌, ◌^◌, ℤ, pos, List, [], ◌∷◌, Some, None}
use Rattle.std.specs.Result.{result_err}
use Rattle.contract.specs.Names.declared.party.Party.{Party}
use Rattle.contract.specs.Names.Equal.{ada}
use Rattle.contract.specs.declared.fault.SemFault.TheVariants.{Ambiguous, Leaves128}
use Rattle.contract.specs.declared.input.Input.{Input}
use Rattle.contract.specs.declared.input.Input.TheVariants as inputs
use Rattle.contract.specs.Tree.{ValueTree, constant, add_value, time_interval_start, use_value, ActionTree, deposit, choice, notify, ContractTree, close, when, let_be, no_cases, case_then, true_obs, false_obs, value_ge}
use Rattle.semantics.specs.Evaluation.EvaluationRows.{too_large}
use Rattle.semantics.specs.Walk.{answer_of}
use Rattle.semantics.specs.Computed.{computed}
use Rattle.semantics.specs.Rows.{interval, nothing, a_has_three, party_a, party_b, name_x}
use Rattle.next_inputs.specs.Taking.{taken_case, leaving_case}
use Rattle.next_inputs.specs.Opening.{next_case, waits_until}

-- an action that leads to Close
abbrev pub then_close : ActionTree → ActionTree × ContractTree
then_close k = (k, close)

-- in the interval from 0 to 10 and a state without entries the input takes this case of two, or none
abbrev pub TakesFirst : ActionTree → ActionTree → Input → Type 0
TakesFirst j k x = taken_case (interval (pos 0) (pos 10)) nothing x (then_close j ∷ then_close k ∷ []) ≡ Some 0

abbrev pub TakesSecond : ActionTree → ActionTree → Input → Type 0
TakesSecond j k x = taken_case (interval (pos 0) (pos 10)) nothing x (then_close j ∷ then_close k ∷ []) ≡ Some 1

abbrev pub TakesNone : ActionTree → ActionTree → Input → Type 0
TakesNone j k x = taken_case (interval (pos 0) (pos 10)) nothing x (then_close j ∷ then_close k ∷ []) ≡ None

-- a deposit of the role b into the account of the role a, in lovelace
abbrev pub asks : ValueTree → ActionTree
asks v = deposit party_a party_b ada v

abbrev pub deposits : ℤ → Input
deposits n = inputs.Deposit party_a party_b ada n

-- of two deposits of one amount, as evaluated, the first is taken; of another amount the second
abbrev pub EqualDepositsTakeTheFirst : Type 0
EqualDepositsTakeTheFirst =
    TakesFirst (asks (constant (pos 5))) (asks (add_value (constant (pos 2)) (constant (pos 3)))) (deposits (pos 5)) × TakesSecond (asks (constant (pos 5))) (asks (constant (pos 6))) (deposits (pos 6))

-- behind one whose value leaves 128 bits nothing is taken, before it what matches
abbrev pub LeavingStops : Type 0
LeavingStops =
    TakesNone (asks too_large) (asks (constant (pos 5))) (deposits (pos 5))
    × (leaving_case (interval (pos 0) (pos 10)) nothing (deposits (pos 5)) (then_close (asks too_large) ∷ then_close (asks (constant (pos 5))) ∷ []) ≡ Some 0)
    × TakesFirst (asks (constant (pos 5))) (asks too_large) (deposits (pos 5))

-- another account, party or token is another deposit: here the accounts differ
abbrev pub OtherAccountIsTaken : Type 0
OtherAccountIsTaken = TakesSecond (deposit party_b party_b ada too_large) (asks (constant (pos 5))) (deposits (pos 5))

-- a choice of a range
abbrev pub from_to : Party → ℤ → ℤ → ActionTree
from_to owner from to = choice (record { name = name_x; owner = owner }) (record { from = from; to = to } ∷ [])

abbrev pub chooses : Party → ℤ → Input
chooses owner n = inputs.Choice (record { name = name_x; owner = owner }) n

-- of 3 to 10 behind 0 to 5 what is left begins at 6
abbrev pub EarlierBoundsTake : Type 0
EarlierBoundsTake =
    TakesFirst (from_to party_a (pos 0) (pos 5)) (from_to party_a (pos 3) (pos 10)) (chooses party_a (pos 5))
    × TakesSecond (from_to party_a (pos 0) (pos 5)) (from_to party_a (pos 3) (pos 10)) (chooses party_a (pos 6))

-- a choice of another owner is another choice
abbrev pub OtherOwnerIsTaken : Type 0
OtherOwnerIsTaken = TakesSecond (from_to party_a (pos 0) (pos 5)) (from_to party_b (pos 3) (pos 10)) (chooses party_b (pos 5))

-- bounds the wrong way round take nothing
abbrev pub InvertedTakesNothing : Type 0
InvertedTakesNothing = TakesSecond (from_to party_a (pos 5) (pos 0)) (from_to party_a (pos 3) (pos 10)) (chooses party_a (pos 3))

-- a notify behind a true one isn't taken, behind a false one it is, and behind one whose observation leaves it isn't
abbrev pub TrueNotifyTakes : Type 0
TrueNotifyTakes =
    TakesFirst (notify true_obs) (notify true_obs) inputs.Notify
    × TakesSecond (notify false_obs) (notify true_obs) inputs.Notify
    × TakesNone (notify (value_ge too_large (constant (pos 0)))) (notify true_obs) inputs.Notify

-- in the interval from 0 to 10, from the minimum time 6, the start that a deposit names is 6
abbrev pub starts : ContractTree
starts = when (case_then (asks time_interval_start) close no_cases) (pos 100) close

abbrev pub StartIsTrimmed : Type 0
StartIsTrimmed = next_case (interval (pos 0) (pos 10)) (record nothing { min_time = pos 6 }) starts (deposits (pos 6)) ≡ Some 0

-- an amount is read behind the reduction, which binds it here
abbrev pub binds : ContractTree
binds = let_be name_x (constant (pos 7)) (when (case_then (asks (use_value name_x)) close no_cases) (pos 100) close)

abbrev pub AmountIsReadLater : Type 0
AmountIsReadLater = next_case (interval (pos 0) (pos 10)) nothing binds (deposits (pos 7)) ≡ Some 0

-- a When with the timeout 100 waits until 99
abbrev pub WaitsUntilNinetyNine : Type 0
WaitsUntilNinetyNine = waits_until starts ≡ Some (pos 99)

-- behind a notify a When whose timeout lies inside the interval from 0 to 10: the notify takes its case, and what follows is
-- refused
abbrev pub waits_inside : ContractTree
waits_inside = when (case_then (notify true_obs) (when no_cases (pos 5) close) no_cases) (pos 100) close

abbrev pub FollowingIsAmbiguous : Type 0
FollowingIsAmbiguous =
    (next_case (interval (pos 0) (pos 10)) nothing waits_inside inputs.Notify ≡ Some 0)
    × (result_err (answer_of (computed (interval (pos 0) (pos 10)) nothing waits_inside (inputs.Notify ∷ []))) ≡ Some Ambiguous)

-- the greatest number of 128 bits is deposited into an account that has 3: the deposit takes its case, and the sum leaves
abbrev pub greatest : ℤ
greatest = pos (2 ^ 127 - 1)

abbrev pub asks_greatest : ContractTree
asks_greatest = when (case_then (asks (constant greatest)) close no_cases) (pos 100) close

abbrev pub SumLeaves : Type 0
SumLeaves =
    (next_case (interval (pos 0) (pos 10)) a_has_three asks_greatest (deposits greatest) ≡ Some 0)
    × (result_err (answer_of (computed (interval (pos 0) (pos 10)) a_has_three asks_greatest (deposits greatest ∷ []))) ≡ Some Leaves128)
