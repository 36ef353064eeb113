-- How large the parts of a contract are.
use Rattle.std.proofs.Common.{◌≡◌, sym, ap, ◌∙◌, ℕ, zero, suc, ◌+◌, ◌<◌, ◌≤◌, ℤ, List, [], ◌∷◌, map, length, arith}
use Rattle.std.proofs.Math.ListN.{get_or}
use Rattle.contract.specs.Names.declared.party.Party.{Party}
use Rattle.contract.specs.Names.declared.payee.Payee.{Payee}
use Rattle.contract.specs.Names.declared.token.Token.{Token}
use Rattle.contract.specs.declared.value.Value.{Value}
use Rattle.contract.specs.declared.value.Observation.{Observation}
use Rattle.contract.specs.declared.tree.Case.{Case}
use Rattle.contract.specs.declared.tree.Contract.{Contract}
use Rattle.contract.specs.declared.tree.Contract as contracts
use Rattle.contract.specs.Tree.{ActionTree, ContractTree, close, pay, if_obs, when, let_be, assert, case_then, value_tree, observation_tree, case_tree, case_trees, contract_tree}
use Rattle.contract.proofs.TreeLaws.{contract_tree-Close, contract_tree-Pay, contract_tree-If, contract_tree-When, contract_tree-Let, contract_tree-Assert, case_tree-parts}
use Rattle.analysis_walk.specs.NodesSupport.{nodes, nodes_of}

-- ---- the tree of each form, over contracts that are lent

pub is-Close : (d : Contract) → d ≡ contracts.Close → contract_tree d ≡ close
is-Close d is = ap contract_tree is ∙ contract_tree-Close

pub is-Pay : (d : Contract) (p : Party) (y : Payee) (t : Token) (v : Value) (c j : Contract) → d ≡ contracts.Pay p y t v c → j ≡ c → contract_tree d ≡ pay p y t (value_tree v) (contract_tree j)
is-Pay d p y t v c j is lent = ap contract_tree is ∙ (contract_tree-Pay p y t v c ∙ ap (λ x. pay p y t (value_tree v) (contract_tree x)) (sym lent))

pub is-Let : (d : Contract) (x : List ℕ) (v : Value) (c j : Contract) → d ≡ contracts.Let x v c → j ≡ c → contract_tree d ≡ let_be x (value_tree v) (contract_tree j)
is-Let d x v c j is lent = ap contract_tree is ∙ (contract_tree-Let x v c ∙ ap (λ k. let_be x (value_tree v) (contract_tree k)) (sym lent))

pub is-Assert : (d : Contract) (o : Observation) (c j : Contract) → d ≡ contracts.Assert o c → j ≡ c → contract_tree d ≡ assert (observation_tree o) (contract_tree j)
is-Assert d o c j is lent = ap contract_tree is ∙ (contract_tree-Assert o c ∙ ap (λ x. assert (observation_tree o) (contract_tree x)) (sym lent))

pub is-If : (d : Contract) (o : Observation) (c e j k : Contract) → d ≡ contracts.If o c e → j ≡ c → k ≡ e → contract_tree d ≡ if_obs (observation_tree o) (contract_tree j) (contract_tree k)
is-If d o c e j k is lent other = ap contract_tree is ∙ (contract_tree-If o c e ∙ (λ i. if_obs (observation_tree o) (contract_tree (sym lent i)) (contract_tree (sym other i))))

pub is-When : (d : Contract) (ks : List Case) (t : ℤ) (c j : Contract) → d ≡ contracts.When ks t c → j ≡ c → contract_tree d ≡ when (case_trees (map case_tree ks)) t (contract_tree j)
is-When d ks t c j is lent = ap contract_tree is ∙ (contract_tree-When ks t c ∙ ap (λ x. when (case_trees (map case_tree ks)) t (contract_tree x)) (sym lent))

-- ---- sizes

pub nodes-Pay : (p : Party) (y : Payee) (t : Token) (v : Value) (c : Contract) → nodes (contract_tree (contracts.Pay p y t v c)) ≡ 1 + nodes (contract_tree c)
nodes-Pay p y t v c = ap nodes (contract_tree-Pay p y t v c)

pub nodes-Let : (x : List ℕ) (v : Value) (c : Contract) → nodes (contract_tree (contracts.Let x v c)) ≡ 1 + nodes (contract_tree c)
nodes-Let x v c = ap nodes (contract_tree-Let x v c)

pub nodes-Assert : (o : Observation) (c : Contract) → nodes (contract_tree (contracts.Assert o c)) ≡ 1 + nodes (contract_tree c)
nodes-Assert o c = ap nodes (contract_tree-Assert o c)

pub nodes-If : (o : Observation) (c d : Contract) → nodes (contract_tree (contracts.If o c d)) ≡ 1 + (nodes (contract_tree c) + nodes (contract_tree d))
nodes-If o c d = ap nodes (contract_tree-If o c d)

pub nodes-When : (ks : List Case) (t : ℤ) (c : Contract) → nodes (contract_tree (contracts.When ks t c)) ≡ 2 + (nodes_of (case_trees (map case_tree ks)) + nodes (contract_tree c))
nodes-When ks t c = ap nodes (contract_tree-When ks t c)

pub nodes-first : (k : Case) (ks : List Case) → nodes_of (case_trees (map case_tree (k ∷ ks))) ≡ 1 + (nodes (contract_tree k.then) + nodes_of (case_trees (map case_tree ks)))
nodes-first k ks = ap (λ (z : ActionTree × ContractTree). nodes_of (case_then z.0 z.1 (case_trees (map case_tree ks)))) (case_tree-parts k)

pub nodes-at : (ks : List Case) (i : ℕ) (k : Case) → i < length ks → k ≡ get_or ks i k → 1 + nodes (contract_tree k.then) ≤ nodes_of (case_trees (map case_tree ks))
nodes-at [] i k l is = absurd (omega arith)
nodes-at (x ∷ ks) zero k l is = omega (arith, nodes-first x ks, ap (λ (z : Case). nodes (contract_tree z.then)) is)
nodes-at (x ∷ ks) (suc i) k l is = omega (arith, nodes-first x ks, nodes-at ks i k (omega arith) is)

pub ruleset sizes = (nodes-Pay, nodes-Let, nodes-Assert, nodes-If, nodes-When, nodes-first, nodes-at)
