-- The JSON values that are written for bounds, actions, cases and contracts (Marlowe specification version 3,
-- "Actions and inputs", "Contracts"), and whether JSON has their numbers.
use Rattle.std.specs.Prelude.{map, Bool, true, ◌&&◌, codes}
use Rattle.std.specs.List.{list_all}
use Rattle.serde_json.specs.Data.{Data, string, array, Items, no_items, item}
use Rattle.serde_json.specs.View.{items_of}
use Rattle.contract.specs.Names.declared.bound.Bound.{Bound}
use Rattle.contract.specs.Tree.{ActionTree, deposit, choice, notify, ContractTree, close, pay, if_obs, when, let_be, assert, CaseTrees, no_cases, case_then}
use Rattle.json_write_contracts.specs.WrittenNames.{one, two, three, four, five, number_json, number_fits, time_fits, party_json, token_json, choice_id_json, payee_json}
use Rattle.json_write_contracts.specs.WrittenValues.{value_json, observation_json, value_fits, observation_fits}

-- ---- bounds and actions

abbrev pub bound_json : Bound → Data
bound_json b = two (codes "from") (number_json b.from) (codes "to") (number_json b.to)

abbrev pub bound_fits : Bound → Bool
bound_fits b = number_fits b.from && number_fits b.to

abbrev pub action_json : ActionTree → Data
action_json (deposit a p t v) = four (codes "deposits") (value_json v) (codes "into_account") (party_json a) (codes "of_token") (token_json t) (codes "party") (party_json p)
action_json (choice id bounds) = two (codes "choose_between") (array (items_of (map bound_json bounds))) (codes "for_choice") (choice_id_json id)
action_json (notify o) = one (codes "notify_if") (observation_json o)

abbrev pub action_fits : ActionTree → Bool
action_fits (deposit a p t v) = value_fits v
action_fits (choice id bounds) = list_all bound_fits bounds
action_fits (notify o) = observation_fits o

-- ---- contracts

abbrev mutual
  pub contract_json : ContractTree → Data
  contract_json close = string (codes "close")
  contract_json (pay a p t v c) = five (codes "from_account") (party_json a) (codes "pay") (value_json v) (codes "then") (contract_json c) (codes "to") (payee_json p) (codes "token") (token_json t)
  contract_json (if_obs o c d) = three (codes "else") (contract_json d) (codes "if") (observation_json o) (codes "then") (contract_json c)
  contract_json (when ks t c) = three (codes "timeout") (number_json t) (codes "timeout_continuation") (contract_json c) (codes "when") (array (cases_json ks))
  contract_json (let_be x v c) = three (codes "be") (value_json v) (codes "let") (string x) (codes "then") (contract_json c)
  contract_json (assert o c) = two (codes "assert") (observation_json o) (codes "then") (contract_json c)

  pub cases_json : CaseTrees → Items
  cases_json no_cases = no_items
  cases_json (case_then a c ks) = item (two (codes "case") (action_json a) (codes "then") (contract_json c)) (cases_json ks)

abbrev pub case_json : ActionTree × ContractTree → Data
case_json k = two (codes "case") (action_json k.0) (codes "then") (contract_json k.1)

-- whether JSON has each number of a contract, and each time as a time
abbrev mutual
  pub contract_fits : ContractTree → Bool
  contract_fits close = true
  contract_fits (pay a p t v c) = value_fits v && contract_fits c
  contract_fits (if_obs o c d) = observation_fits o && contract_fits c && contract_fits d
  contract_fits (when ks t c) = cases_fit ks && time_fits t && contract_fits c
  contract_fits (let_be x v c) = value_fits v && contract_fits c
  contract_fits (assert o c) = observation_fits o && contract_fits c

  pub cases_fit : CaseTrees → Bool
  cases_fit no_cases = true
  cases_fit (case_then a c ks) = (action_fits a && contract_fits c) && cases_fit ks

abbrev pub case_fits : ActionTree × ContractTree → Bool
case_fits k = action_fits k.0 && contract_fits k.1
