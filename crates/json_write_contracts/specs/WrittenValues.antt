-- The JSON values that are written for values and observations (Marlowe specification version 3, "Values
-- and observations"), and whether JSON has their numbers.
use Rattle.std.specs.Prelude.{Bool, true, false, ◌&&◌, codes}
use Rattle.serde_json.specs.Data.{Data, boolean, string}
use Rattle.contract.specs.Tree.{ValueTree, available_money, constant, neg_value, add_value, sub_value, mul_value, div_value, choice_value, time_interval_start, time_interval_end, use_value, cond_value}
use Rattle.contract.specs.Tree.{ObservationTree, and_obs, or_obs, not_obs, chose_something, value_ge, value_gt, value_lt, value_le, value_eq, true_obs, false_obs}
use Rattle.json_write_contracts.specs.WrittenNames.{one, two, three, number_json, number_fits, party_json, token_json, choice_id_json}

abbrev mutual
  pub value_json : ValueTree → Data
  value_json (available_money p t) = two (codes "amount_of_token") (token_json t) (codes "in_account") (party_json p)
  value_json (constant n) = number_json n
  value_json (neg_value v) = one (codes "negate") (value_json v)
  value_json (add_value v w) = two (codes "add") (value_json v) (codes "and") (value_json w)
  value_json (sub_value v w) = two (codes "minus") (value_json w) (codes "value") (value_json v)
  value_json (mul_value v w) = two (codes "multiply") (value_json v) (codes "times") (value_json w)
  value_json (div_value v w) = two (codes "by") (value_json w) (codes "divide") (value_json v)
  value_json (choice_value id) = one (codes "value_of_choice") (choice_id_json id)
  value_json time_interval_start = string (codes "time_interval_start")
  value_json time_interval_end = string (codes "time_interval_end")
  value_json (use_value x) = one (codes "use_value") (string x)
  value_json (cond_value o v w) = three (codes "else") (value_json w) (codes "if") (observation_json o) (codes "then") (value_json v)

  pub observation_json : ObservationTree → Data
  observation_json (and_obs o p) = two (codes "and") (observation_json p) (codes "both") (observation_json o)
  observation_json (or_obs o p) = two (codes "either") (observation_json o) (codes "or") (observation_json p)
  observation_json (not_obs o) = one (codes "not") (observation_json o)
  observation_json (chose_something id) = one (codes "chose_something_for") (choice_id_json id)
  observation_json (value_ge v w) = two (codes "ge_than") (value_json w) (codes "value") (value_json v)
  observation_json (value_gt v w) = two (codes "gt") (value_json w) (codes "value") (value_json v)
  observation_json (value_lt v w) = two (codes "lt") (value_json w) (codes "value") (value_json v)
  observation_json (value_le v w) = two (codes "le_than") (value_json w) (codes "value") (value_json v)
  observation_json (value_eq v w) = two (codes "equal_to") (value_json w) (codes "value") (value_json v)
  observation_json true_obs = boolean true
  observation_json false_obs = boolean false

-- whether JSON has each number of a value and of an observation
abbrev mutual
  pub value_fits : ValueTree → Bool
  value_fits (available_money p t) = true
  value_fits (constant n) = number_fits n
  value_fits (neg_value v) = value_fits v
  value_fits (add_value v w) = value_fits v && value_fits w
  value_fits (sub_value v w) = value_fits v && value_fits w
  value_fits (mul_value v w) = value_fits v && value_fits w
  value_fits (div_value v w) = value_fits v && value_fits w
  value_fits (choice_value id) = true
  value_fits time_interval_start = true
  value_fits time_interval_end = true
  value_fits (use_value x) = true
  value_fits (cond_value o v w) = observation_fits o && value_fits v && value_fits w

  pub observation_fits : ObservationTree → Bool
  observation_fits (and_obs o p) = observation_fits o && observation_fits p
  observation_fits (or_obs o p) = observation_fits o && observation_fits p
  observation_fits (not_obs o) = observation_fits o
  observation_fits (chose_something id) = true
  observation_fits (value_ge v w) = value_fits v && value_fits w
  observation_fits (value_gt v w) = value_fits v && value_fits w
  observation_fits (value_lt v w) = value_fits v && value_fits w
  observation_fits (value_le v w) = value_fits v && value_fits w
  observation_fits (value_eq v w) = value_fits v && value_fits w
  observation_fits true_obs = true
  observation_fits false_obs = true
