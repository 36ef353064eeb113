-- Spellings of values, observations, actions and contracts tell them apart.
use Rattle.std.proofs.Common.{◌≡◌, refl, arith}
use Rattle.contract.specs.Tree.{ValueTree, available_money, constant, neg_value, add_value, sub_value, mul_value, div_value, choice_value, time_interval_start, time_interval_end, use_value, cond_value}
use Rattle.contract.specs.Tree.{ObservationTree, and_obs, or_obs, not_obs, chose_something, value_ge, value_gt, value_lt, value_le, value_eq, true_obs, false_obs}
use Rattle.contract.specs.Tree.{ActionTree, deposit, choice, notify, ContractTree, CaseTrees, close, pay, if_obs, when, let_be, assert, no_cases, case_then}
use Rattle.contract_bytes.specs.Names.{bound_bytes, BoundFits}
use Rattle.contract_bytes.specs.Values.{value_bytes, observation_bytes, ValueFits, ObservationFits}
use Rattle.contract_bytes.specs.Trees.{action_bytes, contract_bytes, cases_bytes, case_count, ActionFits, ContractFits, CasesFit}
use Rattle.contract_bytes.specs.Unambiguous.{ReadsOneWay}
use Rattle.contract_bytes.proofs.Apart.{Tells, shows, nothing, then_if, both, tagged, other, length_tells, number_tells, time_tells, text_tells, list_tells, reads_one_way}
use Rattle.contract_bytes.proofs.ApartNames.{party_tells, token_tells, choice_id_tells, payee_tells, bound_tells}

mutual
  unfolding value_bytes observation_bytes

  pub value_tells : (x y : ValueTree) → ValueFits x → ValueFits y → Tells (x ≡ y) (value_bytes x) (value_bytes y)
  value_tells (available_money p t) (available_money q u) f g = shows (λ e. λ i. available_money (e.0 i) (e.1 i)) (tagged (both (party_tells p q f.0 g.0) (token_tells t u f.1 g.1)))
  value_tells (constant m) (constant n) f g = shows (λ e. λ i. constant (e i)) (tagged (number_tells m n f g))
  value_tells (neg_value v) (neg_value w) f g = shows (λ e. λ i. neg_value (e i)) (tagged (value_tells v w f g))
  value_tells (add_value v w) (add_value x y) f g = shows (λ e. λ i. add_value (e.0 i) (e.1 i)) (tagged (both (value_tells v x f.0 g.0) (value_tells w y f.1 g.1)))
  value_tells (sub_value v w) (sub_value x y) f g = shows (λ e. λ i. sub_value (e.0 i) (e.1 i)) (tagged (both (value_tells v x f.0 g.0) (value_tells w y f.1 g.1)))
  value_tells (mul_value v w) (mul_value x y) f g = shows (λ e. λ i. mul_value (e.0 i) (e.1 i)) (tagged (both (value_tells v x f.0 g.0) (value_tells w y f.1 g.1)))
  value_tells (div_value v w) (div_value x y) f g = shows (λ e. λ i. div_value (e.0 i) (e.1 i)) (tagged (both (value_tells v x f.0 g.0) (value_tells w y f.1 g.1)))
  value_tells (choice_value a) (choice_value b) f g = shows (λ e. λ i. choice_value (e i)) (tagged (choice_id_tells a b f g))
  value_tells time_interval_start time_interval_start f g = tagged (nothing refl)
  value_tells time_interval_end time_interval_end f g = tagged (nothing refl)
  value_tells (use_value a) (use_value b) f g = shows (λ e. λ i. use_value (e i)) (tagged (text_tells a b f g))
  value_tells (cond_value o v w) (cond_value p x y) f g = shows (λ e. λ i. cond_value (e.0.0 i) (e.0.1 i) (e.1 i)) (tagged (both (both (observation_tells o p f.0 g.0) (value_tells v x f.1 g.1)) (value_tells w y f.2 g.2)))
  value_tells _ _ f g = other refl

  pub observation_tells : (x y : ObservationTree) → ObservationFits x → ObservationFits y → Tells (x ≡ y) (observation_bytes x) (observation_bytes y)
  observation_tells (and_obs v w) (and_obs x y) f g = shows (λ e. λ i. and_obs (e.0 i) (e.1 i)) (tagged (both (observation_tells v x f.0 g.0) (observation_tells w y f.1 g.1)))
  observation_tells (or_obs v w) (or_obs x y) f g = shows (λ e. λ i. or_obs (e.0 i) (e.1 i)) (tagged (both (observation_tells v x f.0 g.0) (observation_tells w y f.1 g.1)))
  observation_tells (not_obs o) (not_obs p) f g = shows (λ e. λ i. not_obs (e i)) (tagged (observation_tells o p f g))
  observation_tells (chose_something a) (chose_something b) f g = shows (λ e. λ i. chose_something (e i)) (tagged (choice_id_tells a b f g))
  observation_tells (value_ge v w) (value_ge x y) f g = shows (λ e. λ i. value_ge (e.0 i) (e.1 i)) (tagged (both (value_tells v x f.0 g.0) (value_tells w y f.1 g.1)))
  observation_tells (value_gt v w) (value_gt x y) f g = shows (λ e. λ i. value_gt (e.0 i) (e.1 i)) (tagged (both (value_tells v x f.0 g.0) (value_tells w y f.1 g.1)))
  observation_tells (value_lt v w) (value_lt x y) f g = shows (λ e. λ i. value_lt (e.0 i) (e.1 i)) (tagged (both (value_tells v x f.0 g.0) (value_tells w y f.1 g.1)))
  observation_tells (value_le v w) (value_le x y) f g = shows (λ e. λ i. value_le (e.0 i) (e.1 i)) (tagged (both (value_tells v x f.0 g.0) (value_tells w y f.1 g.1)))
  observation_tells (value_eq v w) (value_eq x y) f g = shows (λ e. λ i. value_eq (e.0 i) (e.1 i)) (tagged (both (value_tells v x f.0 g.0) (value_tells w y f.1 g.1)))
  observation_tells true_obs true_obs f g = tagged (nothing refl)
  observation_tells false_obs false_obs f g = tagged (nothing refl)
  observation_tells _ _ f g = other refl

pub action_tells : (x y : ActionTree) → ActionFits x → ActionFits y → Tells (x ≡ y) (action_bytes x) (action_bytes y)
unfolding action_bytes
action_tells (deposit a p t v) (deposit b q u w) f g =
    shows (λ e. λ i. deposit (e.0.0.0 i) (e.0.0.1 i) (e.0.1 i) (e.1 i)) (tagged (both (both (both (party_tells a b f.0 g.0) (party_tells p q f.1 g.1)) (token_tells t u f.2 g.2)) (value_tells v w f.3 g.3)))
action_tells (choice a ms) (choice b ns) f g =
    shows (λ e. λ i. choice (e.0 i) (e.1 i)) (tagged (both (choice_id_tells a b f.0 g.0) (list_tells BoundFits bound_bytes bound_tells ms ns f.1 g.1)))
action_tells (notify o) (notify p) f g = shows (λ e. λ i. notify (e i)) (tagged (observation_tells o p f g))
action_tells _ _ f g = other refl

mutual
  unfolding contract_bytes cases_bytes

  pub contract_tells : (x y : ContractTree) → ContractFits x → ContractFits y → Tells (x ≡ y) (contract_bytes x) (contract_bytes y)
  contract_tells close close f g = tagged (nothing refl)
  contract_tells (pay a p t v c) (pay b q u w d) f g =
      shows (λ e. λ i. pay (e.0.0.0.0 i) (e.0.0.0.1 i) (e.0.0.1 i) (e.0.1 i) (e.1 i))
      (tagged (both (both (both (both (party_tells a b f.0 g.0) (payee_tells p q f.1 g.1)) (token_tells t u f.2 g.2)) (value_tells v w f.3 g.3)) (contract_tells c d f.4 g.4)))
  contract_tells (if_obs o c d) (if_obs p x y) f g =
      shows (λ e. λ i. if_obs (e.0.0 i) (e.0.1 i) (e.1 i)) (tagged (both (both (observation_tells o p f.0 g.0) (contract_tells c x f.1 g.1)) (contract_tells d y f.2 g.2)))
  contract_tells (when ks m c) (when ls n d) f g =
      shows (λ e. λ i. when (e.0.0.1 i) (e.0.1 i) (e.1 i))
      (tagged (both (both (then_if (length_tells (case_count ks) (case_count ls) f.0 g.0) (λ e. cases_tell ks ls e f.1 g.1)) (time_tells m n f.2 g.2)) (contract_tells c d f.3 g.3)))
  contract_tells (let_be a v c) (let_be b w d) f g =
      shows (λ e. λ i. let_be (e.0.0 i) (e.0.1 i) (e.1 i)) (tagged (both (both (text_tells a b f.0 g.0) (value_tells v w f.1 g.1)) (contract_tells c d f.2 g.2)))
  contract_tells (assert o c) (assert p d) f g = shows (λ e. λ i. assert (e.0 i) (e.1 i)) (tagged (both (observation_tells o p f.0 g.0) (contract_tells c d f.1 g.1)))
  contract_tells _ _ f g = other refl

  pub cases_tell : (x y : CaseTrees) → case_count x ≡ case_count y → CasesFit x → CasesFit y → Tells (x ≡ y) (cases_bytes x) (cases_bytes y)
  cases_tell no_cases no_cases h f g = nothing refl
  cases_tell no_cases (case_then b d ls) h f g = absurd (omega (arith, h))
  cases_tell (case_then a c ks) no_cases h f g = absurd (omega (arith, h))
  cases_tell (case_then a c ks) (case_then b d ls) h f g =
      shows (λ e. λ i. case_then (e.0.0 i) (e.0.1 i) (e.1 i)) (both (both (action_tells a b f.0 g.0) (contract_tells c d f.1 g.1)) (cases_tell ks ls (omega (arith, h)) f.2 g.2))

-- ---- the law

pub values_read_one_way : ReadsOneWay ValueFits value_bytes
values_read_one_way = reads_one_way ValueFits value_bytes value_tells

pub observations_read_one_way : ReadsOneWay ObservationFits observation_bytes
observations_read_one_way = reads_one_way ObservationFits observation_bytes observation_tells

pub actions_read_one_way : ReadsOneWay ActionFits action_bytes
actions_read_one_way = reads_one_way ActionFits action_bytes action_tells

pub contracts_read_one_way : ReadsOneWay ContractFits contract_bytes
contracts_read_one_way = reads_one_way ContractFits contract_bytes contract_tells
