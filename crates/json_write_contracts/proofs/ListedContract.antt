-- The JSON value of each form of contract and of a case, and whether its numbers fit.
use Rattle.std.proofs.Common.{◌≡◌, ℕ, ℤ, true, ◌&&◌, List, [], ◌∷◌, map, refl, ap, ◌∙◌}
use Rattle.std.proofs.lemmas.List.Folds.{list_all-map}
use Rattle.std.specs.List.{list_all}
use Rattle.std.specs.Prelude.{codes}
use Rattle.serde_json.specs.Data.{string, array, item}
use Rattle.serde_json.specs.View.{items_of}
use Rattle.contract.specs.Names.declared.party.Party.{Party}
use Rattle.contract.specs.Names.declared.payee.Payee.{Payee}
use Rattle.contract.specs.Names.declared.token.Token.{Token}
use Rattle.contract.specs.declared.value.Value.{Value}
use Rattle.contract.specs.declared.value.Observation.{Observation}
use Rattle.contract.specs.declared.tree.Case.{Case}
use Rattle.contract.specs.declared.tree.Contract.{Contract}
use Rattle.contract.specs.declared.tree.Contract as made
use Rattle.contract.specs.Tree.{ActionTree, ContractTree, value_tree, observation_tree, action_tree, case_trees, case_tree, contract_tree}
use Rattle.contract.proofs.TreeLaws.{contract_tree-Close, contract_tree-Pay, contract_tree-If, contract_tree-When, contract_tree-Let, contract_tree-Assert, case_tree-parts}
use Rattle.json_write_contracts.specs.WrittenNames.{two, three, five, number_json, time_fits, party_json, payee_json, token_json}
use Rattle.json_write_contracts.specs.WrittenValues.{value_json, observation_json, value_fits, observation_fits}
use Rattle.json_write_contracts.specs.WrittenContract.{action_json, contract_json, cases_json, case_json, action_fits, contract_fits, cases_fit, case_fits}

cases-json : (ks : List (ActionTree × ContractTree)) → cases_json (case_trees ks) ≡ items_of (map case_json ks)
cases-json [] = refl
cases-json (k ∷ ks) = ap (λ ds. item (case_json k) ds) (cases-json ks)

cases-fit : (ks : List (ActionTree × ContractTree)) → cases_fit (case_trees ks) ≡ list_all case_fits ks
cases-fit [] = refl
cases-fit (k ∷ ks) = ap (λ b. case_fits k && b) (cases-fit ks)

map-map : {A B C : Type 0} (f : B → C) (g : A → B) (xs : List A) → map f (map g xs) ≡ map (λ x. f (g x)) xs
map-map f g [] = refl
map-map f g (x ∷ xs) = ap (λ ys. f (g x) ∷ ys) (map-map f g xs)

-- the cases of a When, as a list
pub cases_json-listed : (ks : List Case) → cases_json (case_trees (map case_tree ks)) ≡ items_of (map (λ k. case_json (case_tree k)) ks)
cases_json-listed ks = cases-json (map case_tree ks) ∙ ap items_of (map-map case_json case_tree ks)

pub cases_fit-listed : (ks : List Case) → cases_fit (case_trees (map case_tree ks)) ≡ list_all (λ k. case_fits (case_tree k)) ks
cases_fit-listed ks = cases-fit (map case_tree ks) ∙ list_all-map case_fits case_tree ks

-- the JSON value of each form, and whether its numbers fit
pub contract_json-Close : contract_json (contract_tree made.Close) ≡ string (codes "close")
contract_json-Close = ap contract_json contract_tree-Close

pub contract_fits-Close : contract_fits (contract_tree made.Close) ≡ true
contract_fits-Close = ap contract_fits contract_tree-Close

pub contract_json-Pay : (a : Party) (p : Payee) (t : Token) (v : Value) (c : Contract) → contract_json (contract_tree (made.Pay a p t v c)) ≡ five (codes "from_account") (party_json a) (codes "pay") (value_json (value_tree v)) (codes "then") (contract_json (contract_tree c)) (codes "to") (payee_json p) (codes "token") (token_json t)
contract_json-Pay a p t v c = ap contract_json (contract_tree-Pay a p t v c)

pub contract_fits-Pay : (a : Party) (p : Payee) (t : Token) (v : Value) (c : Contract) → contract_fits (contract_tree (made.Pay a p t v c)) ≡ (value_fits (value_tree v) && contract_fits (contract_tree c))
contract_fits-Pay a p t v c = ap contract_fits (contract_tree-Pay a p t v c)

pub contract_json-If : (o : Observation) (c : Contract) (d : Contract) → contract_json (contract_tree (made.If o c d)) ≡ three (codes "else") (contract_json (contract_tree d)) (codes "if") (observation_json (observation_tree o)) (codes "then") (contract_json (contract_tree c))
contract_json-If o c d = ap contract_json (contract_tree-If o c d)

pub contract_fits-If : (o : Observation) (c : Contract) (d : Contract) → contract_fits (contract_tree (made.If o c d)) ≡ (observation_fits (observation_tree o) && contract_fits (contract_tree c) && contract_fits (contract_tree d))
contract_fits-If o c d = ap contract_fits (contract_tree-If o c d)

pub contract_json-When : (ks : List Case) (t : ℤ) (c : Contract) → contract_json (contract_tree (made.When ks t c))
    ≡ three (codes "timeout") (number_json t) (codes "timeout_continuation") (contract_json (contract_tree c)) (codes "when") (array (cases_json (case_trees (map case_tree ks))))
contract_json-When ks t c = ap contract_json (contract_tree-When ks t c)

pub contract_fits-When : (ks : List Case) (t : ℤ) (c : Contract) → contract_fits (contract_tree (made.When ks t c)) ≡ (cases_fit (case_trees (map case_tree ks)) && time_fits t && contract_fits (contract_tree c))
contract_fits-When ks t c = ap contract_fits (contract_tree-When ks t c)

pub contract_json-Let : (x : List ℕ) (v : Value) (c : Contract) → contract_json (contract_tree (made.Let x v c)) ≡ three (codes "be") (value_json (value_tree v)) (codes "let") (string x) (codes "then") (contract_json (contract_tree c))
contract_json-Let x v c = ap contract_json (contract_tree-Let x v c)

pub contract_fits-Let : (x : List ℕ) (v : Value) (c : Contract) → contract_fits (contract_tree (made.Let x v c)) ≡ (value_fits (value_tree v) && contract_fits (contract_tree c))
contract_fits-Let x v c = ap contract_fits (contract_tree-Let x v c)

pub contract_json-Assert : (o : Observation) (c : Contract) → contract_json (contract_tree (made.Assert o c)) ≡ two (codes "assert") (observation_json (observation_tree o)) (codes "then") (contract_json (contract_tree c))
contract_json-Assert o c = ap contract_json (contract_tree-Assert o c)

pub contract_fits-Assert : (o : Observation) (c : Contract) → contract_fits (contract_tree (made.Assert o c)) ≡ (observation_fits (observation_tree o) && contract_fits (contract_tree c))
contract_fits-Assert o c = ap contract_fits (contract_tree-Assert o c)

pub case_json-parts : (k : Case) → case_json (case_tree k) ≡ two (codes "case") (action_json (action_tree k.action)) (codes "then") (contract_json (contract_tree k.then))
case_json-parts k = ap case_json (case_tree-parts k)

pub case_fits-parts : (k : Case) → case_fits (case_tree k) ≡ (action_fits (action_tree k.action) && contract_fits (contract_tree k.then))
case_fits-parts k = ap case_fits (case_tree-parts k)
