-- Worked transactions: what the definitions answer.
use Rattle.std.specs.Prelude.{◌≡◌, ℕ, ◌^◌, ℤ, pos, neg_ℤ, List, [], ◌∷◌, Ok, Err}
use Rattle.std.specs.FinMap.{empty, from_sorted, insert}
use Rattle.contract.specs.Names.declared.party.Party.{Party}
use Rattle.contract.specs.Names.declared.party.Party.TheVariants.{Address, Role}
use Rattle.contract.specs.Names.Equal.{ada}
use Rattle.contract.specs.Names.declared.account.Account.{Account}
use Rattle.contract.specs.Names.declared.payee.Payee.TheVariants.{Account as ToAccount, Party as ToParty}
use Rattle.contract.specs.Names.declared.choice_id.ChoiceId.{ChoiceId}
use Rattle.contract.specs.declared.fault.SemFault.{SemFault}
use Rattle.contract.specs.declared.fault.SemFault.TheVariants.{InvalidInterval, IntervalInPast, Ambiguous, NoMatch, Useless, Leaves128}
use Rattle.contract.specs.declared.input.Input.{Input}
use Rattle.contract.specs.declared.input.Input.TheVariants.{Deposit, Choice, Notify}
use Rattle.contract.specs.declared.interval.Interval.{Interval}
use Rattle.contract.specs.declared.payment.Payment.{Payment}
use Rattle.contract.specs.declared.warning.Warning.{Warning}
use Rattle.contract.specs.declared.warning.Warning.TheVariants.{NonPositiveDeposit, NonPositivePay, PartialPay, Shadowing, AssertionFailed}
use Rattle.contract.specs.States.States.{StateMaps}
use Rattle.contract.specs.Tree.{ValueTree, constant, div_value, cond_value, ObservationTree, and_obs, or_obs, value_ge, true_obs, false_obs}
use Rattle.contract.specs.Tree.{deposit, choice, notify, ContractTree, close, pay, if_obs, when, let_be, assert, no_cases, case_then}
use Rattle.evaluation.specs.EvaluationRows.{too_large, least}
use Rattle.semantics.specs.Walk.{Turn, refund, timed_out, in_case, standing, Walk, answer_of}
use Rattle.semantics.specs.Reduction.{refund_of}
use Rattle.semantics.specs.Computed.{computed}

-- the role a has 1 lovelace
abbrev pub role_a : Account × ℤ
role_a = (record { owner = Role (97 ∷ []); token = ada }, pos 1)

-- a state with that account alone, and a minimum time
abbrev pub one_account : ℤ → StateMaps
one_account t = record { accounts = from_sorted (role_a ∷ []); choices = empty; bound_values = empty; min_time = t }

abbrev pub interval : ℤ → ℤ → Interval
interval from to = record { from = from; to = to }

-- a When of one case, a notify of an observation, with timeout 100
abbrev pub waits_to_close : ObservationTree → ContractTree
waits_to_close o = when (case_then (notify o) close no_cases) (pos 100) close

-- a When without cases, with timeout 100
abbrev pub waits_for_time : ContractTree
waits_for_time = when no_cases (pos 100) close

-- the account is paid back by these turns, and the contract is over
abbrev pub paid_back : List Turn → ℤ → Walk
paid_back turns t = record { numbers = []; warnings = []; payments = refund_of role_a ∷ []; turns = turns; end = Ok (standing (record (one_account t) { accounts = empty }) close) }

-- what a transaction is refused with
abbrev pub IsRefused : Interval → StateMaps → ContractTree → List Input → SemFault → Type 0
IsRefused i s c xs f = answer_of (computed i s c xs) ≡ Err f

-- a notify of a true observation is taken, and the account is paid back
abbrev pub NotifyPays : Type 0
NotifyPays = computed (interval (pos 0) (pos 10)) (one_account (pos 0)) (waits_to_close true_obs) (Notify ∷ []) ≡ paid_back (in_case 0 ∷ refund ∷ []) (pos 0)

-- a notify of a false observation matches nothing
abbrev pub FalseMatchesNothing : Type 0
FalseMatchesNothing = IsRefused (interval (pos 0) (pos 10)) (one_account (pos 0)) (waits_to_close false_obs) (Notify ∷ []) NoMatch

-- before the timeout nothing is done
abbrev pub WaitingIsUseless : Type 0
WaitingIsUseless = IsRefused (interval (pos 50) (pos 99)) (one_account (pos 0)) waits_for_time [] Useless

-- an interval that reaches the timeout is ambiguous
abbrev pub ReachingIsAmbiguous : Type 0
ReachingIsAmbiguous = IsRefused (interval (pos 50) (pos 100)) (one_account (pos 0)) waits_for_time [] Ambiguous

-- from the timeout on the account is paid back
abbrev pub TimeoutPays : Type 0
TimeoutPays = computed (interval (pos 100) (pos 100)) (one_account (pos 0)) waits_for_time [] ≡ paid_back (timed_out ∷ refund ∷ []) (pos 100)

-- an interval that ends before it starts is invalid, whatever the minimum time
abbrev pub InvertedIsInvalid : Type 0
InvertedIsInvalid = IsRefused (interval (pos 20) (pos 10)) (one_account (pos 6)) waits_for_time [] InvalidInterval

-- an interval that ends before the minimum time lies in the past
abbrev pub EarlierIsPast : Type 0
EarlierIsPast = IsRefused (interval (pos 0) (pos 5)) (one_account (pos 6)) waits_for_time [] IntervalInPast

-- an interval that starts before the minimum time is trimmed, and no fault
abbrev pub TrimmedIsUseless : Type 0
TrimmedIsUseless = IsRefused (interval (pos 0) (pos 6)) (one_account (pos 6)) waits_for_time [] Useless

-- a trimmed interval: from 0 it reaches the timeout, from the minimum time 100 on it doesn't
abbrev pub TrimmedPays : Type 0
TrimmedPays = computed (interval (pos 0) (pos 100)) (one_account (pos 100)) waits_for_time [] ≡ paid_back (timed_out ∷ refund ∷ []) (pos 100)

-- ---- Pay

abbrev pub party_a : Party
party_a = Role (97 ∷ [])

abbrev pub party_b : Party
party_b = Role (98 ∷ [])

-- a state without entries, and one where the role a has 3 lovelace
abbrev pub nothing : StateMaps
nothing = record { accounts = empty; choices = empty; bound_values = empty; min_time = pos 0 }

abbrev pub a_has_three : StateMaps
a_has_three = record nothing { accounts = from_sorted ((record { owner = party_a; token = ada }, pos 3) ∷ []) }

-- within the interval from 0 to 10 a transaction warns so, pays so, and leaves this state and Close
pub record Does (s : StateMaps) (c : ContractTree) (xs : List Input) (warnings : List Warning) (payments : List Payment) (end : StateMaps) : Type 0 where
  pub warns : (computed (interval (pos 0) (pos 10)) s c xs).warnings ≡ warnings
  pub paid : (computed (interval (pos 0) (pos 10)) s c xs).payments ≡ payments
  pub answers : answer_of (computed (interval (pos 0) (pos 10)) s c xs) ≡ Ok (standing end close)

-- a payment of the role a to the role b, in lovelace
abbrev pub to_b : ℤ → Payment
to_b n = record { from = party_a; to = ToParty party_b; token = ada; amount = n }

abbrev pub pays_b : ℤ → ContractTree
pays_b n = pay party_a (ToParty party_b) ada (constant n) close

-- of 5 the 3 that there are are paid
abbrev pub PaysWhatThereIs : Type 0
PaysWhatThereIs = Does a_has_three (pays_b (pos 5)) [] (PartialPay party_a (ToParty party_b) ada (pos 3) (pos 5) ∷ []) (to_b (pos 3) ∷ []) nothing

-- where there is nothing, a payment of 0 is recorded
abbrev pub PaysNothing : Type 0
PaysNothing = Does nothing (pays_b (pos 5)) [] (PartialPay party_a (ToParty party_b) ada (pos 0) (pos 5) ∷ []) (to_b (pos 0) ∷ []) nothing

-- a Pay of 0 is no payment
abbrev pub PaysZero : Type 0
PaysZero = Does nothing (pays_b (pos 0)) [] (NonPositivePay party_a (ToParty party_b) ada (pos 0) ∷ []) [] nothing

-- a payment of the role a to an account, in lovelace
abbrev pub to_account : Party → ℤ → Payment
to_account p n = record { from = party_a; to = ToAccount p; token = ada; amount = n }

-- a Pay of an account to itself leaves it as it was
abbrev pub PaysItself : Type 0
PaysItself = Does a_has_three (pay party_a (ToAccount party_a) ada (constant (pos 2)) close) [] [] (to_account party_a (pos 2) ∷ refund_of (record { owner = party_a; token = ada }, pos 3) ∷ []) nothing

-- where there is nothing, the account of the payee gets no entry
abbrev pub EntersNothing : Type 0
EntersNothing = Does nothing (pay party_a (ToAccount party_b) ada (constant (pos 5)) close) [] (PartialPay party_a (ToAccount party_b) ada (pos 0) (pos 5) ∷ []) (to_account party_b (pos 0) ∷ []) nothing

-- ---- Let, If and Assert

abbrev pub name_x : List ℕ
name_x = 120 ∷ []

abbrev pub bound : ℤ → StateMaps
bound n = record nothing { bound_values = insert empty name_x n }

-- a value that is bound to a name
abbrev pub Binds : ValueTree → ℤ → Type 0
Binds v n = Does nothing (let_be name_x v close) [] [] [] (bound n)

abbrev pub MinusSevenByTwoIsBound : Type 0
MinusSevenByTwoIsBound = Binds (div_value (constant (neg_ℤ (pos 7))) (constant (pos 2))) (neg_ℤ (pos 3))

abbrev pub SevenByZeroIsBound : Type 0
SevenByZeroIsBound = Binds (div_value (constant (pos 7)) (constant (pos 0))) (pos 0)

-- the least number of 128 bits is bound, and by -1 it is refused
abbrev pub LeastIsBound : Type 0
LeastIsBound = Binds least (neg_ℤ (pos (2 ^ 127)))

abbrev pub LeastByMinusOneIsRefused : Type 0
LeastByMinusOneIsRefused = IsRefused (interval (pos 0) (pos 10)) nothing (let_be name_x (div_value least (constant (neg_ℤ (pos 1)))) close) [] Leaves128

-- of a Cond the branch that isn't taken is left out
abbrev pub CondIsBound : Type 0
CondIsBound = Binds (cond_value true_obs (constant (pos 1)) too_large) (pos 1)

abbrev pub CondIsRefused : Type 0
CondIsRefused = IsRefused (interval (pos 0) (pos 10)) nothing (let_be name_x (cond_value false_obs (constant (pos 1)) too_large) close) [] Leaves128

-- the later of two values that are bound to one name stays, with a warning
abbrev pub LaterIsBound : Type 0
LaterIsBound = Does nothing (let_be name_x (constant (pos 1)) (let_be name_x (constant (pos 2)) close)) [] (Shadowing name_x (pos 1) (pos 2) ∷ []) [] (record nothing { bound_values = insert (insert empty name_x (pos 1)) name_x (pos 2) })

-- the branch that the observation chooses
abbrev pub IfChooses : Type 0
IfChooses = Does nothing (if_obs true_obs (let_be name_x (constant (pos 1)) close) close) [] [] [] (bound (pos 1))
    × Does nothing (if_obs false_obs (let_be name_x (constant (pos 1)) close) close) [] [] [] nothing

-- the right side of an AndObs or OrObs is left out where the left one decides
abbrev pub is_large : ObservationTree
is_large = value_ge too_large (constant (pos 0))

abbrev pub FalseAndFails : Type 0
FalseAndFails = Does nothing (assert (and_obs false_obs is_large) close) [] (AssertionFailed ∷ []) [] nothing

abbrev pub TrueAndIsRefused : Type 0
TrueAndIsRefused = IsRefused (interval (pos 0) (pos 10)) nothing (assert (and_obs true_obs is_large) close) [] Leaves128

abbrev pub TrueOrIsSilent : Type 0
TrueOrIsSilent = Does nothing (assert (or_obs true_obs is_large) close) [] [] [] nothing

-- ---- inputs

-- of two cases that match the first is taken
abbrev pub FirstIsTaken : Type 0
FirstIsTaken = Does nothing (when (case_then (notify true_obs) (let_be name_x (constant (pos 1)) close) (case_then (notify true_obs) close no_cases)) (pos 100) close) (Notify ∷ []) [] [] (bound (pos 1))

abbrev pub choice_of_a : ChoiceId
choice_of_a = record { name = name_x; owner = party_a }

-- a choice of the role a from 1 to 3
abbrev pub chooses : ContractTree
chooses = when (case_then (choice choice_of_a (record { from = pos 1; to = pos 3 } ∷ [])) close no_cases) (pos 100) close

abbrev pub IsChosen : ℤ → Type 0
IsChosen n = Does nothing chooses (Choice choice_of_a n ∷ []) [] [] (record nothing { choices = insert empty choice_of_a n })

-- both ends of the bound are taken, what lies outside isn't
abbrev pub EndsAreChosen : Type 0
EndsAreChosen = IsChosen (pos 1) × IsChosen (pos 3)

abbrev pub OutsideIsNoMatch : Type 0
OutsideIsNoMatch = IsRefused (interval (pos 0) (pos 10)) nothing chooses (Choice choice_of_a (pos 4) ∷ []) NoMatch

-- a deposit of 0 by the role b into the account of the role a is taken, and adds nothing
abbrev pub ZeroIsDeposited : Type 0
ZeroIsDeposited = Does nothing (when (case_then (deposit party_a party_b ada (constant (pos 0))) close no_cases) (pos 100) close) (Deposit party_a party_b ada (pos 0) ∷ []) (NonPositiveDeposit party_a party_b ada (pos 0) ∷ []) [] nothing

-- ---- Close

abbrev pub party_x : Party
party_x = Address (120 ∷ [])

-- a party's account of lovelace
abbrev pub lovelace_of : Party → Account
lovelace_of p = record { owner = p; token = ada }

-- the role a has 5, and the address x, which came later and stands before it, has 7
abbrev pub two_accounts : StateMaps
two_accounts = record nothing { accounts = insert (insert empty (lovelace_of party_a) (pos 5)) (lovelace_of party_x) (pos 7) }

-- the accounts are paid back in their order
abbrev pub RefundsInOrder : Type 0
RefundsInOrder = Does two_accounts close [] [] (refund_of (lovelace_of party_x, pos 7) ∷ refund_of (lovelace_of party_a, pos 5) ∷ []) nothing

-- a Close without accounts has nothing to do
abbrev pub CloseIsUseless : Type 0
CloseIsUseless = IsRefused (interval (pos 0) (pos 10)) nothing close [] Useless
