-- The JSON values that are written for states, payments, warnings and outcomes (Marlowe specification
-- version 3, "Compute transaction").
use Rattle.std.specs.Prelude.{ℕ, ℤ, List, map, Bool, ◌&&◌, codes}
use Rattle.std.specs.List.{list_all}
use Rattle.std.specs.FinMap.{entries}
use Rattle.serde_json.specs.Data.{Data, string, array, Members, no_members, member}
use Rattle.serde_json.specs.View.{items_of}
use Rattle.contract.specs.Names.declared.account.Account.{Account}
use Rattle.contract.specs.Names.declared.choice_id.ChoiceId.{ChoiceId}
use Rattle.contract.specs.Tree.{ContractTree}
use Rattle.contract.specs.States.States.{StateMaps}
use Rattle.contract.specs.declared.payment.Payment.{Payment}
use Rattle.contract.specs.declared.warning.Warning.{Warning}
use Rattle.contract.specs.declared.warning.Warning.TheVariants as warnings
use Rattle.json_write_contracts.specs.WrittenNames.{one, four, five, six, pair_json, number_json, number_fits, wide_json, party_json, token_json, choice_id_json, payee_json}
use Rattle.json_write_contracts.specs.WrittenContract.{contract_json}

-- ---- states

abbrev pub account_row_json : Account × ℤ → Data
account_row_json e = pair_json (pair_json (party_json e.0.owner) (token_json e.0.token)) (wide_json e.1)

abbrev pub choice_row_json : ChoiceId × ℤ → Data
choice_row_json e = pair_json (choice_id_json e.0) (wide_json e.1)

abbrev pub bound_row_json : List ℕ × ℤ → Data
bound_row_json e = pair_json (string e.0) (wide_json e.1)

abbrev pub accounts_json : StateMaps → Data
accounts_json s = array (items_of (map account_row_json (entries s.accounts)))

abbrev pub bound_values_json : StateMaps → Data
bound_values_json s = array (items_of (map bound_row_json (entries s.bound_values)))

abbrev pub choices_json : StateMaps → Data
choices_json s = array (items_of (map choice_row_json (entries s.choices)))

abbrev pub state_json : StateMaps → Data
state_json s = four (codes "accounts") (accounts_json s) (codes "boundValues") (bound_values_json s) (codes "choices") (choices_json s) (codes "minTime") (number_json s.min_time)

-- whether JSON has each number of a state's maps
abbrev pub state_fits : StateMaps → Bool
state_fits s = list_all (λ e. number_fits e.1) (entries s.accounts) && (list_all (λ e. number_fits e.1) (entries s.choices) && list_all (λ e. number_fits e.1) (entries s.bound_values))

-- ---- outcomes

abbrev pub payment_json : Payment → Data
payment_json p = four (codes "amount") (wide_json p.amount) (codes "payment_from") (party_json p.from) (codes "to") (payee_json p.to) (codes "token") (token_json p.token)

-- a warning: its name, and what it says
abbrev pub warning_json : Warning → Data
warning_json (warnings.NonPositiveDeposit a p t n) = five (codes "account") (party_json a) (codes "amount") (wide_json n) (codes "party") (party_json p) (codes "token") (token_json t)
    (codes "warning") (string (codes "NonPositiveDeposit"))
warning_json (warnings.NonPositivePay a p t n) = five (codes "account") (party_json a) (codes "amount") (wide_json n) (codes "payee") (payee_json p) (codes "token") (token_json t)
    (codes "warning") (string (codes "NonPositivePay"))
warning_json (warnings.PartialPay a p t paid expected) = six (codes "account") (party_json a) (codes "expected") (wide_json expected) (codes "paid") (wide_json paid) (codes "payee") (payee_json p)
    (codes "token") (token_json t) (codes "warning") (string (codes "PartialPay"))
warning_json (warnings.Shadowing x old new) = four (codes "name") (string x) (codes "new") (wide_json new) (codes "old") (wide_json old) (codes "warning") (string (codes "Shadowing"))
warning_json warnings.AssertionFailed = one (codes "warning") (string (codes "AssertionFailed"))

abbrev pub payments_json : List Payment → Data
payments_json payments = array (items_of (map payment_json payments))

abbrev pub warnings_json : List Warning → Data
warnings_json warnings = array (items_of (map warning_json warnings))

-- the contract that remains, the payments and the warnings in order, and the state
abbrev pub outcome_json : List Warning → List Payment → StateMaps → ContractTree → Data
outcome_json warnings payments state remaining = four (codes "contract") (contract_json remaining) (codes "payments") (payments_json payments) (codes "state") (state_json state) (codes "warnings") (warnings_json warnings)

-- its members behind the contract
abbrev pub behind_contract : List Payment → StateMaps → List Warning → Members
behind_contract payments state warnings = member (codes "payments") (payments_json payments) (member (codes "state") (state_json state) (member (codes "warnings") (warnings_json warnings) no_members))
