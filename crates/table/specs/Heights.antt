-- How high a tree is: 0 for a leaf, else one more than the deepest of its parts.
use Rattle.std.specs.Prelude.{ℕ, suc, List, [], ◌∷◌, max}
use Rattle.contract.specs.Tree.{ValueTree, available_money, constant, neg_value, add_value, sub_value, mul_value, div_value, choice_value, time_interval_start, time_interval_end, use_value, cond_value}
use Rattle.contract.specs.Tree.{ObservationTree, and_obs, or_obs, not_obs, chose_something, value_ge, value_gt, value_lt, value_le, value_eq, true_obs, false_obs}
use Rattle.contract.specs.Tree.{ActionTree, deposit, choice, notify, ContractTree, CaseTrees, close, pay, if_obs, when, let_be, assert, no_cases, case_then}

abbrev pub greatest : List ℕ → ℕ
greatest [] = 0
greatest (n ∷ ns) = max n (greatest ns)

-- 0 where there is none
abbrev pub above : List ℕ → ℕ
above [] = 0
above (n ∷ ns) = suc (greatest (n ∷ ns))

abbrev mutual
  pub value_height : ValueTree → ℕ
  value_height (neg_value v) = above (value_height v ∷ [])
  value_height (add_value v w) = above (value_height v ∷ value_height w ∷ [])
  value_height (sub_value v w) = above (value_height v ∷ value_height w ∷ [])
  value_height (mul_value v w) = above (value_height v ∷ value_height w ∷ [])
  value_height (div_value v w) = above (value_height v ∷ value_height w ∷ [])
  value_height (cond_value o v w) = above (observation_height o ∷ value_height v ∷ value_height w ∷ [])
  value_height (available_money p t) = 0
  value_height (constant n) = 0
  value_height (choice_value id) = 0
  value_height time_interval_start = 0
  value_height time_interval_end = 0
  value_height (use_value x) = 0

  pub observation_height : ObservationTree → ℕ
  observation_height (and_obs o q) = above (observation_height o ∷ observation_height q ∷ [])
  observation_height (or_obs o q) = above (observation_height o ∷ observation_height q ∷ [])
  observation_height (not_obs o) = above (observation_height o ∷ [])
  observation_height (value_ge v w) = above (value_height v ∷ value_height w ∷ [])
  observation_height (value_gt v w) = above (value_height v ∷ value_height w ∷ [])
  observation_height (value_lt v w) = above (value_height v ∷ value_height w ∷ [])
  observation_height (value_le v w) = above (value_height v ∷ value_height w ∷ [])
  observation_height (value_eq v w) = above (value_height v ∷ value_height w ∷ [])
  observation_height (chose_something id) = 0
  observation_height true_obs = 0
  observation_height false_obs = 0

-- a case, over its action and the contract_height of what follows it
abbrev pub case_over : ActionTree → ℕ → ℕ
case_over (deposit a p t v) n = above (value_height v ∷ n ∷ [])
case_over (choice id bounds) n = above (n ∷ [])
case_over (notify o) n = above (observation_height o ∷ n ∷ [])

abbrev mutual
  pub contract_height : ContractTree → ℕ
  contract_height close = 0
  contract_height (pay p y t v c) = above (value_height v ∷ contract_height c ∷ [])
  contract_height (if_obs o c d) = above (observation_height o ∷ contract_height c ∷ contract_height d ∷ [])
  contract_height (when ks t c) = above (contract_height c ∷ case_heights ks)
  contract_height (let_be x v c) = above (value_height v ∷ contract_height c ∷ [])
  contract_height (assert o c) = above (observation_height o ∷ contract_height c ∷ [])

  pub case_heights : CaseTrees → List ℕ
  case_heights no_cases = []
  case_heights (case_then a c ks) = case_over a (contract_height c) ∷ case_heights ks

abbrev pub case_height : ActionTree × ContractTree → ℕ
case_height k = case_over k.0 (contract_height k.1)
