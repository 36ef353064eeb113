-- How many nodes a tree has: its continuations, and apart from them its values, observations and cases. The bounds of a
-- choice are no nodes, and a part that stands twice counts twice.
use Rattle.std.specs.Prelude.{◌≡◌, ℕ, ◌+◌, ◌<◌, Option, MatchOption}
use Rattle.contract.specs.Tree.{ValueTree, available_money, constant, neg_value, add_value, sub_value, mul_value, div_value, choice_value, time_interval_start, time_interval_end, use_value, cond_value}
use Rattle.contract.specs.Tree.{ObservationTree, and_obs, or_obs, not_obs, chose_something, value_ge, value_gt, value_lt, value_le, value_eq, true_obs, false_obs}
use Rattle.contract.specs.Tree.{ActionTree, deposit, choice, notify, ContractTree, close, pay, if_obs, when, let_be, assert, CaseTrees, no_cases, case_then}

-- the values and observations of a value, and of an observation
unfoldable mutual
  pub value_size : ValueTree → ℕ
  value_size (neg_value v) = 1 + value_size v
  value_size (add_value v w) = 1 + value_size v + value_size w
  value_size (sub_value v w) = 1 + value_size v + value_size w
  value_size (mul_value v w) = 1 + value_size v + value_size w
  value_size (div_value v w) = 1 + value_size v + value_size w
  value_size (cond_value o v w) = 1 + observation_size o + value_size v + value_size w
  value_size (available_money p t) = 1
  value_size (constant n) = 1
  value_size (choice_value id) = 1
  value_size time_interval_start = 1
  value_size time_interval_end = 1
  value_size (use_value x) = 1

  pub observation_size : ObservationTree → ℕ
  observation_size (and_obs o q) = 1 + observation_size o + observation_size q
  observation_size (or_obs o q) = 1 + observation_size o + observation_size q
  observation_size (not_obs o) = 1 + observation_size o
  observation_size (value_ge v w) = 1 + value_size v + value_size w
  observation_size (value_gt v w) = 1 + value_size v + value_size w
  observation_size (value_lt v w) = 1 + value_size v + value_size w
  observation_size (value_le v w) = 1 + value_size v + value_size w
  observation_size (value_eq v w) = 1 + value_size v + value_size w
  observation_size (chose_something id) = 1
  observation_size true_obs = 1
  observation_size false_obs = 1

-- those that an action waits for
unfoldable pub action_size : ActionTree → ℕ
action_size (deposit a p t v) = value_size v
action_size (choice id bounds) = 0
action_size (notify o) = observation_size o

-- the continuations of a contract
unfoldable mutual
  pub conts : ContractTree → ℕ
  conts close = 1
  conts (pay a p t v c) = 1 + conts c
  conts (if_obs o c d) = 1 + conts c + conts d
  conts (when ks t c) = 1 + conts_of ks + conts c
  conts (let_be x v c) = 1 + conts c
  conts (assert o c) = 1 + conts c

  pub conts_of : CaseTrees → ℕ
  conts_of no_cases = 0
  conts_of (case_then a c ks) = conts c + conts_of ks

-- its values, observations and cases
unfoldable mutual
  pub others : ContractTree → ℕ
  others close = 0
  others (pay a p t v c) = value_size v + others c
  others (if_obs o c d) = observation_size o + others c + others d
  others (when ks t c) = others_of ks + others c
  others (let_be x v c) = value_size v + others c
  others (assert o c) = observation_size o + others c

  pub others_of : CaseTrees → ℕ
  others_of no_cases = 0
  others_of (case_then a c ks) = 1 + action_size a + others c + others_of ks

-- what so many nodes leave of a room, or nothing where it doesn't suffice
abbrev pub Leaves : ℕ → ℕ → Option ℕ → Type 0
Leaves room nodes result = MatchOption result (room < nodes) (λ left. left + nodes ≡ room)
