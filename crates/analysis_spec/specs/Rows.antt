-- Worked promises: each can be broken, and runs that break it.
use Rattle.std.specs.Prelude.{◌≡◌, ℤ, pos, neg_ℤ, List, [], ◌∷◌, Some, None}
use Rattle.contract.specs.Names.declared.payee.Payee.TheVariants.{Party as ToParty}
use Rattle.contract.specs.Names.Equal.{ada}
use Rattle.contract.specs.declared.input.Input.{Input}
use Rattle.contract.specs.declared.transaction.Transaction.{Transaction}
use Rattle.contract.specs.declared.input.Input.TheVariants.{Deposit, Notify}
use Rattle.contract.specs.Tree.{constant, div_value, and_obs, not_obs, true_obs, false_obs, deposit, notify, ContractTree, close, pay, when, let_be, assert, no_cases, case_then}
use Rattle.semantics.specs.Evaluation.EvaluationRows.{least}
use Rattle.semantics.specs.Walk.{standing}
use Rattle.semantics.specs.Rows.{interval, party_a, party_b, name_x, nothing, a_has_three, is_large, pays_b}
use Rattle.analysis_spec.specs.declared.kind.AlarmKind.TheVariants.{NonPositiveDeposit, NonPositivePay, PartialPay, Shadowing, AssertionFailed, Leaves128}
use Rattle.analysis_spec.specs.declared.path.PathStep.TheVariants.{Then, Case, Action}
use Rattle.analysis_spec.specs.Runs.{payments_of, paid_to}
use Rattle.analysis_spec.specs.Promises.{NeverWarns, StaysWithin128, NeverReached, PaysBetween}
use Rattle.analysis_spec.specs.PlacedRuns.{EndsAt}

-- these inputs, from 0 to 10
abbrev pub early : List Input → Transaction
early xs = record { interval = interval (pos 0) (pos 10); inputs = xs }

-- ---- warnings

-- a Pay from an empty account pays partly
abbrev pub EmptyPayWarns : Type 0
EmptyPayWarns = NeverWarns PartialPay nothing (pays_b (pos 5)) → ⊥

-- a Pay to the role b, and then a When whose timeout an interval from 0 to 10 reaches
abbrev pub pays_and_waits : ℤ → ContractTree
pays_and_waits n = pay party_a (ToParty party_b) ada (constant n) (when no_cases (pos 5) close)

-- also where the transaction is refused after it
abbrev pub RefusedPayWarns : Type 0
RefusedPayWarns = NeverWarns PartialPay nothing (pays_and_waits (pos 5)) → ⊥

-- a Pay of 0
abbrev pub ZeroPayWarns : Type 0
ZeroPayWarns = NeverWarns NonPositivePay nothing (pays_b (pos 0)) → ⊥

-- a deposit of 0
abbrev pub ZeroDepositWarns : Type 0
ZeroDepositWarns = NeverWarns NonPositiveDeposit nothing (when (case_then (deposit party_a party_b ada (constant (pos 0))) close no_cases) (pos 100) close) → ⊥

-- a Let of a name that is bound
abbrev pub SecondLetWarns : Type 0
SecondLetWarns = NeverWarns Shadowing nothing (let_be name_x (constant (pos 1)) (let_be name_x (constant (pos 2)) close)) → ⊥

-- an Assert of what is false
abbrev pub FalseAssertWarns : Type 0
FalseAssertWarns = NeverWarns AssertionFailed nothing (assert (and_obs false_obs is_large) close) → ⊥

-- the least number of 128 bits, by -1
abbrev pub LeastByMinusOneLeaves : Type 0
LeastByMinusOneLeaves = StaysWithin128 nothing (let_be name_x (div_value least (constant (neg_ℤ (pos 1)))) close) → ⊥

-- ---- places

-- a Pay of 2 and then of 5, from 3: the second pays partly, and not the first
abbrev pub pays_twice : ContractTree
pays_twice = pay party_a (ToParty party_b) ada (constant (pos 2)) (pays_b (pos 5))

abbrev pub SecondPaysPartly : Type 0
SecondPaysPartly = EndsAt PartialPay (Then ∷ []) a_has_three pays_twice (early [] ∷ [])

abbrev pub FirstPaysAll : Type 0
FirstPaysAll = EndsAt PartialPay [] a_has_three pays_twice (early [] ∷ []) → ⊥

-- two cases for one deposit of 0, which the first takes: its action warns, and neither what follows it nor the second
abbrev pub waits_twice : ContractTree
waits_twice = let case = deposit party_a party_b ada (constant (pos 0)) in when (case_then case close (case_then case close no_cases)) (pos 100) close

abbrev pub nought : List Transaction
nought = early (Deposit party_a party_b ada (pos 0) ∷ []) ∷ []

abbrev pub FirstActionWarns : Type 0
FirstActionWarns = EndsAt NonPositiveDeposit (Action 0 ∷ []) nothing waits_twice nought

abbrev pub WhatFollowsIsSilent : Type 0
WhatFollowsIsSilent = EndsAt NonPositiveDeposit (Case 0 ∷ []) nothing waits_twice nought → ⊥

abbrev pub SecondActionIsSilent : Type 0
SecondActionIsSilent = EndsAt NonPositiveDeposit (Action 1 ∷ []) nothing waits_twice nought → ⊥

-- a number leaves 128 bits at a case that is only tried, before the one that would take the input
abbrev pub tries_first : ContractTree
tries_first = when (case_then (notify (not_obs is_large)) close (case_then (notify true_obs) close no_cases)) (pos 100) close

abbrev pub TriedCaseLeaves : Type 0
TriedCaseLeaves = EndsAt Leaves128 (Action 0 ∷ []) nothing tries_first (early (Notify ∷ []) ∷ [])

abbrev pub LaterCaseStays : Type 0
LaterCaseStays = EndsAt Leaves128 (Action 1 ∷ []) nothing tries_first (early (Notify ∷ []) ∷ []) → ⊥

-- a name is bound in the first transaction, and again in the second
abbrev pub binds_again : ContractTree
binds_again = let_be name_x (constant (pos 1)) (when (case_then (notify true_obs) (let_be name_x (constant (pos 2)) close) no_cases) (pos 100) close)

abbrev pub two_calls : List Transaction
two_calls = early [] ∷ early (Notify ∷ []) ∷ []

abbrev pub SecondBindingShadows : Type 0
SecondBindingShadows = EndsAt Shadowing (Then ∷ Case 0 ∷ []) nothing binds_again two_calls

abbrev pub FirstBindingIsNew : Type 0
FirstBindingIsNew = EndsAt Shadowing [] nothing binds_again two_calls → ⊥

-- ---- places that are reached

-- each run starts at the root
abbrev pub RootIsReached : Type 0
RootIsReached = NeverReached [] nothing close → ⊥

-- of two equal cases the first takes the input
abbrev pub FirstCaseIsReached : Type 0
FirstCaseIsReached = NeverReached (Case 0 ∷ []) nothing waits_twice → ⊥

-- a transaction goes on from the Pay and is then refused, since its times are on both sides of the timeout
abbrev pub RefusedRunReaches : Type 0
RefusedRunReaches = NeverReached (Then ∷ []) nothing (pays_and_waits (pos 5)) → ⊥

-- a second transaction comes to where the first doesn't
abbrev pub SecondRunReaches : Type 0
SecondRunReaches = NeverReached (Then ∷ Case 0 ∷ []) nothing binds_again → ⊥

-- ---- payments

-- of 5 the 3 that there are are paid
abbrev pub ThreeArePaid : Type 0
ThreeArePaid = paid_to party_b ada (payments_of (standing a_has_three (pays_b (pos 5))) (early [] ∷ [])) ≡ pos 3

-- so they are neither at most 2 nor at least 4
abbrev pub TwoAreTooFew : Type 0
TwoAreTooFew = PaysBetween party_b ada None (Some (pos 2)) a_has_three (pays_b (pos 5)) → ⊥

abbrev pub FourAreTooMany : Type 0
FourAreTooMany = PaysBetween party_b ada (Some (pos 4)) None a_has_three (pays_b (pos 5)) → ⊥

-- a transaction that is refused pays nothing, though its walk has a payment
abbrev pub RefusedPaysNothing : Type 0
RefusedPaysNothing = payments_of (standing a_has_three (pays_and_waits (pos 2))) (early [] ∷ []) ≡ []
