-- Whatever is written reads as it was, where its numbers fit.
use Rattle.std.proofs.Common.{◌≡◌, ℕ, ℤ, pos, negsuc, true, false, cond, ◌&&◌, Bool, List, map, [], ◌∷◌, refl, arith}
use Rattle.std.proofs.lemmas.Bool.{and_parts}
use Rattle.std.specs.Fmt.{signed_decimal}
use Rattle.std.specs.FinMap.{entries}
use Rattle.std.specs.List.{list_all}
use Rattle.serde_json.specs.Data.{Data, string}
use Rattle.serde_json.specs.View.{items_of}
use Rattle.contract.specs.Names.declared.bound.Bound.{Bound}
use Rattle.contract.specs.Names.declared.party.Party.{Party}
use Rattle.contract.specs.Names.declared.party.Party.TheVariants as parties
use Rattle.contract.specs.Names.declared.payee.Payee.{Payee}
use Rattle.contract.specs.Names.declared.payee.Payee.TheVariants as payees
use Rattle.contract.specs.Names.declared.choice_id.ChoiceId.{ChoiceId}
use Rattle.contract.specs.Names.declared.account.Account.{Account}
use Rattle.contract.specs.Names.declared.token.Token.{Token}
use Rattle.contract.specs.declared.input.Input.{Input}
use Rattle.contract.specs.declared.input.Input.TheVariants as inputs
use Rattle.contract.specs.declared.payment.Payment.{Payment}
use Rattle.contract.specs.declared.warning.Warning.{Warning}
use Rattle.contract.specs.declared.warning.Warning.TheVariants as warnings
use Rattle.contract.specs.States.States.{StateMaps}
use Rattle.contract.specs.declared.transaction.Transaction.{Transaction}
use Rattle.json_write_outcomes.specs.WrittenOutcome.{account_row_json, choice_row_json, bound_row_json, state_json, payment_json, warning_json, outcome_json}
use Rattle.contract_json.specs.WrittenInput.{input_json, input_fits, transaction_json, transaction_fits}
use Rattle.contract.specs.Tree.{ValueTree, available_money, constant, neg_value, add_value, sub_value, mul_value, div_value, choice_value, time_interval_start, time_interval_end, use_value, cond_value}
use Rattle.contract.specs.Tree.{ObservationTree, and_obs, or_obs, not_obs, chose_something, value_ge, value_gt, value_lt, value_le, value_eq, true_obs, false_obs}
use Rattle.contract.specs.Tree.{ActionTree, deposit, choice, notify, ContractTree, close, pay, if_obs, when, let_be, assert, CaseTrees, no_cases, case_then}
use Rattle.json_write_contracts.specs.WrittenNames.{time_fits, number_fits, number_json, wide_json, token_json, party_json, payee_json, choice_id_json}
use Rattle.json_write_contracts.specs.WrittenValues.{value_json, value_fits, observation_json, observation_fits}
use Rattle.json_write_contracts.specs.WrittenContract.{bound_json, bound_fits, action_json, action_fits, contract_json, contract_fits, cases_json, cases_fit, case_json, case_fits}
use Rattle.contract_json.specs.Readable.{Readable, ItemsReadable}

pub number-readable : (n : ℤ) → number_fits n ≡ true → Readable (number_json n)
number-readable (pos n) h = grind arith
number-readable (negsuc n) h = grind arith

pub party-readable : (p : Party) → Readable (party_json p)
party-readable (parties.Address t) = ((tt, tt), refl)
party-readable (parties.Role t) = ((tt, tt), refl)

left : (a b : Bool) → (a && b) ≡ true → a ≡ true
left a b h = (and_parts a b h).0

right : (a b : Bool) → (a && b) ≡ true → b ≡ true
right a b h = (and_parts a b h).1

mutual
  pub value-readable : (v : ValueTree) → value_fits v ≡ true → Readable (value_json v)
  value-readable (available_money p t) h = ((((tt, (tt, tt)), refl), (party-readable p, tt)), refl)
  value-readable (constant n) h = number-readable n h
  value-readable (neg_value v) h = ((value-readable v h, tt), refl)
  value-readable (add_value v w) h = ((value-readable v (left _ _ h), (value-readable w (right _ _ h), tt)), refl)
  value-readable (sub_value v w) h = ((value-readable w (right _ _ h), (value-readable v (left _ _ h), tt)), refl)
  value-readable (mul_value v w) h = ((value-readable v (left _ _ h), (value-readable w (right _ _ h), tt)), refl)
  value-readable (div_value v w) h = ((value-readable w (right _ _ h), (value-readable v (left _ _ h), tt)), refl)
  value-readable (choice_value id) h = ((((tt, (party-readable id.owner, tt)), refl), tt), refl)
  value-readable time_interval_start h = tt
  value-readable time_interval_end h = tt
  value-readable (use_value x) h = ((tt, tt), refl)
  value-readable (cond_value o v w) h = ((value-readable w (right _ _ h), (observation-readable o (left _ _ (left _ _ h)), (value-readable v (right _ _ (left _ _ h)), tt))), refl)

  pub observation-readable : (o : ObservationTree) → observation_fits o ≡ true → Readable (observation_json o)
  observation-readable (and_obs o p) h = ((observation-readable p (right _ _ h), (observation-readable o (left _ _ h), tt)), refl)
  observation-readable (or_obs o p) h = ((observation-readable o (left _ _ h), (observation-readable p (right _ _ h), tt)), refl)
  observation-readable (not_obs o) h = ((observation-readable o h, tt), refl)
  observation-readable (chose_something id) h = ((((tt, (party-readable id.owner, tt)), refl), tt), refl)
  observation-readable (value_ge v w) h = ((value-readable w (right _ _ h), (value-readable v (left _ _ h), tt)), refl)
  observation-readable (value_gt v w) h = ((value-readable w (right _ _ h), (value-readable v (left _ _ h), tt)), refl)
  observation-readable (value_lt v w) h = ((value-readable w (right _ _ h), (value-readable v (left _ _ h), tt)), refl)
  observation-readable (value_le v w) h = ((value-readable w (right _ _ h), (value-readable v (left _ _ h), tt)), refl)
  observation-readable (value_eq v w) h = ((value-readable w (right _ _ h), (value-readable v (left _ _ h), tt)), refl)
  observation-readable true_obs h = tt
  observation-readable false_obs h = tt

pub time-readable : (n : ℤ) → time_fits n ≡ true → Readable (number_json n)
time-readable (pos n) h = grind arith
time-readable (negsuc n) h = grind arith

pub payee-readable : (p : Payee) → Readable (payee_json p)
payee-readable (payees.Account p) = ((party-readable p, tt), refl)
payee-readable (payees.Party p) = ((party-readable p, tt), refl)

bounds-readable : (bs : List Bound) → list_all bound_fits bs ≡ true → ItemsReadable (items_of (map bound_json bs))
bounds-readable [] h = tt
bounds-readable (b ∷ bs) h =
    let here = left _ _ h in (((number-readable b.from (left _ _ here), (number-readable b.to (right _ _ here), tt)), refl), bounds-readable bs (right _ _ h))

pub action-readable : (a : ActionTree) → action_fits a ≡ true → Readable (action_json a)
action-readable (deposit a p t v) h = ((value-readable v h, (party-readable a, (((tt, (tt, tt)), refl), (party-readable p, tt)))), refl)
action-readable (choice id bs) h = ((bounds-readable bs h, (((tt, (party-readable id.owner, tt)), refl), tt)), refl)
action-readable (notify o) h = ((observation-readable o h, tt), refl)

mutual
  pub contract-readable : (c : ContractTree) → contract_fits c ≡ true → Readable (contract_json c)
  contract-readable close h = tt
  contract-readable (pay a p t v c) h = ((party-readable a, (value-readable v (left _ _ h), (contract-readable c (right _ _ h), (payee-readable p, (((tt, (tt, tt)), refl), tt))))), refl)
  contract-readable (if_obs o c d) h = ((contract-readable d (right _ _ h), (observation-readable o (left _ _ (left _ _ h)), (contract-readable c (right _ _ (left _ _ h)), tt))), refl)
  contract-readable (when ks t c) h = ((time-readable t (right _ _ (left _ _ h)), (contract-readable c (right _ _ h), (cases-readable ks (left _ _ (left _ _ h)), tt))), refl)
  contract-readable (let_be x v c) h = ((value-readable v (left _ _ h), (tt, (contract-readable c (right _ _ h), tt))), refl)
  contract-readable (assert o c) h = ((observation-readable o (left _ _ h), (contract-readable c (right _ _ h), tt)), refl)

  cases-readable : (ks : CaseTrees) → cases_fit ks ≡ true → ItemsReadable (cases_json ks)
  cases-readable no_cases h = tt
  cases-readable (case_then a c ks) h =
      let here = left _ _ h in (((action-readable a (left _ _ here), (contract-readable c (right _ _ here), tt)), refl), cases-readable ks (right _ _ h))

pub token-readable : (t : Token) → Readable (token_json t)
token-readable t = ((tt, (tt, tt)), refl)

pub choice_id-readable : (id : ChoiceId) → Readable (choice_id_json id)
choice_id-readable id = ((tt, (party-readable id.owner, tt)), refl)

pub bound-readable : (b : Bound) → bound_fits b ≡ true → Readable (bound_json b)
bound-readable b h = ((number-readable b.from (left _ _ h), (number-readable b.to (right _ _ h), tt)), refl)

pub case-readable : (k : ActionTree × ContractTree) → case_fits k ≡ true → Readable (case_json k)
case-readable k h = ((action-readable k.0 (left _ _ h), (contract-readable k.1 (right _ _ h), tt)), refl)

-- ---- inputs and transactions

pub input-readable : (i : Input) → input_fits i ≡ true → Readable (input_json i)
input-readable (inputs.Deposit a p t n) h = ((party-readable p, (party-readable a, (token-readable t, (number-readable n h, tt)))), refl)
input-readable (inputs.Choice id n) h = ((choice_id-readable id, (number-readable n h, tt)), refl)
input-readable inputs.Notify h = tt

inputs-readable : (is : List Input) → list_all input_fits is ≡ true → ItemsReadable (items_of (map input_json is))
inputs-readable [] h = tt
inputs-readable (i ∷ is) h = (input-readable i (left _ _ h), inputs-readable is (right _ _ h))

pub transaction-readable : (t : Transaction) → transaction_fits t ≡ true → time_fits t.interval.from ≡ true → time_fits t.interval.to ≡ true → Readable (transaction_json t)
transaction-readable t h from to = ((inputs-readable t.inputs h, (((time-readable t.interval.from from, (time-readable t.interval.to to, tt)), refl), tt)), refl)

-- ---- states and outcomes

wide-readable : (n : ℤ) → Readable (wide_json n)
wide-readable n = elim (number_fits n) as (λ b. number_fits n ≡ b → Readable (cond b (number_json n) (string (signed_decimal n)))) [ true ↦ λ h. number-readable n h | false ↦ λ h. tt ] refl

list-readable : {X : Type 0} (f : X → Data) → ((x : X) → Readable (f x)) → (xs : List X) → ItemsReadable (items_of (map f xs))
list-readable f h [] = tt
list-readable f h (x ∷ xs) = (h x, list-readable f h xs)

pub payment-readable : (p : Payment) → Readable (payment_json p)
payment-readable p = ((wide-readable p.amount, (party-readable p.from, (payee-readable p.to, (token-readable p.token, tt)))), refl)

pub warning-readable : (w : Warning) → Readable (warning_json w)
warning-readable (warnings.NonPositiveDeposit a p t n) = ((party-readable a, (wide-readable n, (party-readable p, (token-readable t, (tt, tt))))), refl)
warning-readable (warnings.NonPositivePay a p t n) = ((party-readable a, (wide-readable n, (payee-readable p, (token-readable t, (tt, tt))))), refl)
warning-readable (warnings.PartialPay a p t paid expected) = ((party-readable a, (wide-readable expected, (wide-readable paid, (payee-readable p, (token-readable t, (tt, tt)))))), refl)
warning-readable (warnings.Shadowing x old new) = ((tt, (wide-readable new, (wide-readable old, (tt, tt)))), refl)
warning-readable warnings.AssertionFailed = ((tt, tt), refl)

account-readable : (e : Account × ℤ) → Readable (account_row_json e)
account-readable e = ((party-readable e.0.owner, (token-readable e.0.token, tt)), (wide-readable e.1, tt))

choice-readable : (e : ChoiceId × ℤ) → Readable (choice_row_json e)
choice-readable e = (choice_id-readable e.0, (wide-readable e.1, tt))

bound_row-readable : (e : List ℕ × ℤ) → Readable (bound_row_json e)
bound_row-readable e = (tt, (wide-readable e.1, tt))

pub state-readable : (s : StateMaps) → time_fits s.min_time ≡ true → Readable (state_json s)
state-readable s h = (
  (
    list-readable account_row_json account-readable (entries s.accounts),
    (
      list-readable bound_row_json bound_row-readable (entries s.bound_values),
      (list-readable choice_row_json choice-readable (entries s.choices), (time-readable s.min_time h, tt)),
    ),
  ),
  refl,
)

pub outcome-readable : (ws : List Warning) (ps : List Payment) (s : StateMaps) (c : ContractTree) → contract_fits c ≡ true → time_fits s.min_time ≡ true → Readable (outcome_json ws ps s c)
outcome-readable ws ps s c h time =
    ((contract-readable c h, (list-readable payment_json payment-readable ps, (state-readable s time, (list-readable warning_json warning-readable ws, tt)))), refl)

pub ruleset readable = (party-readable, token-readable, choice_id-readable, payee-readable, bound-readable, value-readable, observation-readable, action-readable, case-readable, contract-readable, input-readable, transaction-readable, payment-readable, warning-readable, state-readable, outcome-readable)
