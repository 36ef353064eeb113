-- An action, a case and a contract that were written are read as they were.
use Rattle.std.proofs.Common.{◌≡◌, ℕ, ℤ, true, ◌&&◌, Bool, List, [], ◌∷◌, map, Ok, refl}
use Rattle.std.proofs.lemmas.Bool.{and_parts}
use Rattle.std.specs.Prelude.{codes}
use Rattle.serde_json.specs.Data.{Data, Items, no_items, item, string, array}
use Rattle.serde_json.specs.View.{items_of}
use Rattle.contract.specs.Names.declared.party.Party.{Party}
use Rattle.contract.specs.Names.declared.payee.Payee.{Payee}
use Rattle.contract.specs.Names.declared.token.Token.{Token}
use Rattle.contract.specs.Names.declared.choice_id.ChoiceId.{ChoiceId}
use Rattle.contract.specs.Names.declared.bound.Bound.{Bound}
use Rattle.contract.specs.declared.value.Value.{Value}
use Rattle.contract.specs.declared.value.Observation.{Observation}
use Rattle.contract.specs.declared.tree.Action.{Action}
use Rattle.contract.specs.declared.tree.Action.TheVariants as actions
use Rattle.contract.specs.declared.tree.Case.{Case}
use Rattle.contract.specs.declared.tree.Contract.{Contract}
use Rattle.contract.specs.declared.tree.Contract as made
use Rattle.contract.specs.Tree.{ActionTree, deposit, choice, notify, ContractTree, close, pay, if_obs, when, let_be, assert, CaseTrees, no_cases, case_then}
use Rattle.contract.specs.TreeInverse.{value_of, observation_of, action_of, contract_of, cases_of}
use Rattle.json_read_names.specs.Forms.{contract_form, case_form, action_form}
use Rattle.json_read_names.specs.Parts.{time}
use Rattle.json_read_names.specs.ReadsNames.{party, payee, token, choice_id}
use Rattle.json_read_values.specs.ReadsValue.{value, observation}
use Rattle.json_read_values.specs.ReadsAction.{action, action_by}
use Rattle.json_read_contracts.specs.ReadsContract.{contract, contract_by, case, case_by, all_cases}
use Rattle.json_write_contracts.specs.Symbols.{ActionSymbols, ContractSymbols, CasesSymbols}
use Rattle.json_write_contracts.specs.WrittenNames.{one, two, three, four, five, number_json, party_json, payee_json, token_json, choice_id_json}
use Rattle.json_write_contracts.specs.WrittenValues.{value_json, observation_json}
use Rattle.json_write_contracts.specs.WrittenContract.{bound_json, action_json, contract_json, cases_json, contract_fits, cases_fit}
use Rattle.contract_json.proofs.Hexes.{token-token_json}
use Rattle.contract_json.proofs.ReturnsNames.{time-number_json, party-party_json, payee-payee_json, choice_id-choice_id_json, bounds-written}
use Rattle.contract_json.proofs.ReturnsValue.{value-back, observation-back}

-- ---- actions

action-deposit : (v a t p : Data) (x : Value) (r q : Party) (k : Token) → value v ≡ Ok x → party a ≡ Ok r → token t ≡ Ok k → party p ≡ Ok q
    → action (four (codes "deposits") v (codes "into_account") a (codes "of_token") t (codes "party") p) ≡ Ok (actions.Deposit r q k x)
unfolding action_by action_form
action-deposit v a t p x r q k h i j l = rw (h, i, j, l) refl

action-choice : (i : Data) (id : ChoiceId) (bounds : List Bound) → choice_id i ≡ Ok id → action (two (codes "choose_between") (array (items_of (map bound_json bounds))) (codes "for_choice") i) ≡ Ok (actions.Choice id bounds)
unfolding action_by action_form
action-choice i id bounds h = rw (h, bounds-written bounds) refl

action-notify : (o : Data) (x : Observation) → observation o ≡ Ok x → action (one (codes "notify_if") o) ≡ Ok (actions.Notify x)
unfolding action_by action_form
action-notify o x h = rw h refl

pub action-back : (a : ActionTree) → ActionSymbols a → action (action_json a) ≡ Ok (action_of a)
action-back (deposit a p t v) h = action-deposit (value_json v) (party_json a) (token_json t) (party_json p) (value_of v) a p t (value-back v h.1) (party-party_json a) (token-token_json (token_json t) t refl h.0) (party-party_json p)
action-back (choice id bounds) h = action-choice (choice_id_json id) id bounds (choice_id-choice_id_json id)
action-back (notify o) h = action-notify (observation_json o) (observation_of o) (observation-back o h)

-- ---- contracts, from what is inside

contract-close : contract (string (codes "close")) ≡ Ok made.Close
unfolding contract contract_by contract_form
contract-close = refl

contract-pay : (a v c p t : Data) (r : Party) (x : Value) (y : Contract) (q : Payee) (k : Token) → party a ≡ Ok r → value v ≡ Ok x → contract c ≡ Ok y → payee p ≡ Ok q → token t ≡ Ok k
    → contract (five (codes "from_account") a (codes "pay") v (codes "then") c (codes "to") p (codes "token") t) ≡ Ok (made.Pay r q k x y)
unfolding contract contract_by contract_form
contract-pay a v c p t r x y q k h i j l m = rw (h, i, j, l, m) refl

contract-if : (o c d : Data) (x : Observation) (y z : Contract) → observation o ≡ Ok x → contract c ≡ Ok y → contract d ≡ Ok z → contract (three (codes "else") d (codes "if") o (codes "then") c) ≡ Ok (made.If x y z)
unfolding contract contract_by contract_form
contract-if o c d x y z h i j = rw (h, i, j) refl

contract-when : (n c : Data) (ds : Items) (t : ℤ) (y : Contract) (ks : List Case) → time n ≡ Ok t → contract c ≡ Ok y → all_cases ds ≡ Ok ks
    → contract (three (codes "timeout") n (codes "timeout_continuation") c (codes "when") (array ds)) ≡ Ok (made.When ks t y)
unfolding contract contract_by contract_form
contract-when n c ds t y ks h i j = rw (h, i, j) refl

contract-let : (v c : Data) (s : List ℕ) (x : Value) (y : Contract) → value v ≡ Ok x → contract c ≡ Ok y → contract (three (codes "be") v (codes "let") (string s) (codes "then") c) ≡ Ok (made.Let s x y)
unfolding contract contract_by contract_form
contract-let v c s x y h i = rw (h, i) refl

contract-assert : (o c : Data) (x : Observation) (y : Contract) → observation o ≡ Ok x → contract c ≡ Ok y → contract (two (codes "assert") o (codes "then") c) ≡ Ok (made.Assert x y)
unfolding contract contract_by contract_form
contract-assert o c x y h i = rw (h, i) refl

case-plain : (a c : Data) (x : Action) (y : Contract) → action a ≡ Ok x → contract c ≡ Ok y → case (two (codes "case") a (codes "then") c) ≡ Ok (record { action = x; then = y })
unfolding contract case_by case_form
case-plain a c x y h i = rw (h, i) refl

-- ---- along the tree

left : (a b : Bool) → (a && b) ≡ true → a ≡ true
left a b h = (and_parts a b h).0

right : (a b : Bool) → (a && b) ≡ true → b ≡ true
right a b h = (and_parts a b h).1

cases-more : (d : Data) (ds : Items) (k : Case) (ks : List Case) → case d ≡ Ok k → all_cases ds ≡ Ok ks → all_cases (item d ds) ≡ Ok (k ∷ ks)
unfolding contract
cases-more d ds k ks h i = rw (h, i) refl

no-cases : all_cases no_items ≡ Ok []
unfolding contract
no-cases = refl

mutual
  pub contract-back : (c : ContractTree) → contract_fits c ≡ true → ContractSymbols c → contract (contract_json c) ≡ Ok (contract_of c)
  contract-back close h s = contract-close
  contract-back (pay a p t v c) h s =
      contract-pay (party_json a) (value_json v) (contract_json c) (payee_json p) (token_json t) a (value_of v) (contract_of c) p t
      (party-party_json a) (value-back v s.1.0) (contract-back c (right _ _ h) s.1.1) (payee-payee_json p) (token-token_json (token_json t) t refl s.0)
  contract-back (if_obs o c d) h s =
      contract-if (observation_json o) (contract_json c) (contract_json d) (observation_of o) (contract_of c) (contract_of d) (observation-back o s.0) (contract-back c (right _ _ (left _ _ h)) s.1.0) (contract-back d (right _ _ h) s.1.1)
  contract-back (when ks t c) h s =
      contract-when (number_json t) (contract_json c) (cases_json ks) t (contract_of c) (cases_of ks) (time-number_json t (right _ _ (left _ _ h))) (contract-back c (right _ _ h) s.1) (cases-back ks (left _ _ (left _ _ h)) s.0)
  contract-back (let_be x v c) h s = contract-let (value_json v) (contract_json c) x (value_of v) (contract_of c) (value-back v s.0) (contract-back c (right _ _ h) s.1)
  contract-back (assert o c) h s = contract-assert (observation_json o) (contract_json c) (observation_of o) (contract_of c) (observation-back o s.0) (contract-back c (right _ _ h) s.1)

  cases-back : (ks : CaseTrees) → cases_fit ks ≡ true → CasesSymbols ks → all_cases (cases_json ks) ≡ Ok (cases_of ks)
  cases-back no_cases h s = no-cases
  cases-back (case_then a c ks) h s =
      cases-more (two (codes "case") (action_json a) (codes "then") (contract_json c)) (cases_json ks) (record { action = action_of a; then = contract_of c }) (cases_of ks)
      (case-plain (action_json a) (contract_json c) (action_of a) (contract_of c) (action-back a s.0.0) (contract-back c (right _ _ (left _ _ h)) s.0.1)) (cases-back ks (right _ _ h) s.1)

pub case-back : (a : ActionTree) (c : ContractTree) → contract_fits c ≡ true → ActionSymbols a → ContractSymbols c
    → case (two (codes "case") (action_json a) (codes "then") (contract_json c)) ≡ Ok (record { action = action_of a; then = contract_of c })
case-back a c h s u = case-plain (action_json a) (contract_json c) (action_of a) (contract_of c) (action-back a s) (contract-back c h u)
