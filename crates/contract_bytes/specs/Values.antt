-- How values and observations are spelled in bytes (Marlowe specification version 3, "Values and observations",
-- has the forms): a tag, then the parts in order.
use Rattle.std.specs.Prelude.{ℕ, List, [], ◌∷◌, ◌++◌}
use Rattle.contract.specs.Tree.{ValueTree, available_money, constant, neg_value, add_value, sub_value, mul_value, div_value, choice_value, time_interval_start, time_interval_end, use_value, cond_value}
use Rattle.contract.specs.Tree.{ObservationTree, and_obs, or_obs, not_obs, chose_something, value_ge, value_gt, value_lt, value_le, value_eq, true_obs, false_obs}
use Rattle.contract_bytes.specs.Numbers.{number_bytes, text_bytes, NumberFits, TextFits}
use Rattle.contract_bytes.specs.Names.{party_bytes, token_bytes, choice_id_bytes, PartyFits, TokenFits, ChoiceIdFits}

unfoldable mutual
  pub value_bytes : ValueTree → List ℕ
  value_bytes (available_money party token) = 0x00 ∷ party_bytes party ++ token_bytes token
  value_bytes (constant n) = 0x01 ∷ number_bytes n
  value_bytes (neg_value v) = 0x02 ∷ value_bytes v
  value_bytes (add_value v w) = 0x03 ∷ value_bytes v ++ value_bytes w
  value_bytes (sub_value v w) = 0x04 ∷ value_bytes v ++ value_bytes w
  value_bytes (mul_value v w) = 0x05 ∷ value_bytes v ++ value_bytes w
  value_bytes (div_value v w) = 0x06 ∷ value_bytes v ++ value_bytes w
  value_bytes (choice_value id) = 0x07 ∷ choice_id_bytes id
  value_bytes time_interval_start = 0x08 ∷ []
  value_bytes time_interval_end = 0x09 ∷ []
  value_bytes (use_value name) = 0x0a ∷ text_bytes name
  value_bytes (cond_value o v w) = 0x0b ∷ observation_bytes o ++ value_bytes v ++ value_bytes w

  pub observation_bytes : ObservationTree → List ℕ
  observation_bytes (and_obs o p) = 0x00 ∷ observation_bytes o ++ observation_bytes p
  observation_bytes (or_obs o p) = 0x01 ∷ observation_bytes o ++ observation_bytes p
  observation_bytes (not_obs o) = 0x02 ∷ observation_bytes o
  observation_bytes (chose_something id) = 0x03 ∷ choice_id_bytes id
  observation_bytes (value_ge v w) = 0x04 ∷ value_bytes v ++ value_bytes w
  observation_bytes (value_gt v w) = 0x05 ∷ value_bytes v ++ value_bytes w
  observation_bytes (value_lt v w) = 0x06 ∷ value_bytes v ++ value_bytes w
  observation_bytes (value_le v w) = 0x07 ∷ value_bytes v ++ value_bytes w
  observation_bytes (value_eq v w) = 0x08 ∷ value_bytes v ++ value_bytes w
  observation_bytes true_obs = 0x09 ∷ []
  observation_bytes false_obs = 0x0a ∷ []

-- ---- what fits

abbrev mutual
  pub ValueFits : ValueTree → Type 0
  ValueFits (available_money party token) = PartyFits party × TokenFits token
  ValueFits (constant n) = NumberFits n
  ValueFits (neg_value v) = ValueFits v
  ValueFits (add_value v w) = ValueFits v × ValueFits w
  ValueFits (sub_value v w) = ValueFits v × ValueFits w
  ValueFits (mul_value v w) = ValueFits v × ValueFits w
  ValueFits (div_value v w) = ValueFits v × ValueFits w
  ValueFits (choice_value id) = ChoiceIdFits id
  ValueFits time_interval_start = Unit {0}
  ValueFits time_interval_end = Unit {0}
  ValueFits (use_value name) = TextFits name
  ValueFits (cond_value o v w) = ObservationFits o × ValueFits v × ValueFits w

  pub ObservationFits : ObservationTree → Type 0
  ObservationFits (and_obs o p) = ObservationFits o × ObservationFits p
  ObservationFits (or_obs o p) = ObservationFits o × ObservationFits p
  ObservationFits (not_obs o) = ObservationFits o
  ObservationFits (chose_something id) = ChoiceIdFits id
  ObservationFits (value_ge v w) = ValueFits v × ValueFits w
  ObservationFits (value_gt v w) = ValueFits v × ValueFits w
  ObservationFits (value_lt v w) = ValueFits v × ValueFits w
  ObservationFits (value_le v w) = ValueFits v × ValueFits w
  ObservationFits (value_eq v w) = ValueFits v × ValueFits w
  ObservationFits true_obs = Unit {0}
  ObservationFits false_obs = Unit {0}
