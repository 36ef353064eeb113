-- The code, the sizes and the height of each form of contract, of the code's contracts, and of cases one by one.
use Rattle.std.proofs.Common.{◌≡◌, refl, sym, ap, ◌∙◌, ℕ, ℤ, ◌+◌, ◌<◌, ◌≤◌, max, List, [], ◌∷◌, map, arith}
use Rattle.contract.specs.Names.declared.party.Party.{Party}
use Rattle.contract.specs.Names.declared.payee.Payee.{Payee}
use Rattle.contract.specs.Names.declared.token.Token.{Token}
use Rattle.contract.specs.declared.value.Value.{Value}
use Rattle.contract.specs.declared.value.Observation.{Observation}
use Rattle.contract.specs.declared.tree.Case.{Case}
use Rattle.contract.specs.declared.tree.Contract.{Contract}
use Rattle.contract.specs.declared.tree.Contract as contracts
use Rattle.contract.specs.Tree.{ActionTree, deposit, choice, notify, ContractTree, close, pay, if_obs, when, let_be, assert, value_tree, observation_tree, action_tree, case_tree, case_trees, contract_tree}
use Rattle.contract.proofs.TreeLaws.{contract_tree-Close, contract_tree-Pay, contract_tree-If, contract_tree-When, contract_tree-Let, contract_tree-Assert, case_tree-parts}
use Rattle.table.specs.Nodes.declared.cont_node.ContNode.TheVariants as nodes
use Rattle.table.specs.Flat.{Flat, trees, AllStand, a_case}
use Rattle.table.specs.Heights.{value_height, observation_height, case_over, contract_height}
use Rattle.lowering.specs.Sizes.{value_size, observation_size, action_size, conts, conts_of, others, others_of}
use Rattle.table_builder.specs.Putting.{put_cont}
use Rattle.lowering.specs.Code.{code_value, code_observation, code_case, code_contract, code_cases}
use Rattle.lowering.specs.Building.{cases_height, ActionStands}
use Rattle.lowering.proofs.Keeping.{Keeps}

pub code-Close : (f : Flat) → code_contract (contract_tree contracts.Close) f ≡ (put_cont f nodes.Close)
unfolding code_contract
code-Close f = ap (λ t. code_contract t f) (contract_tree-Close)

pub high-Close : contract_height (contract_tree contracts.Close) ≡ 0
high-Close = ap contract_height (contract_tree-Close)

pub conts-Close : conts (contract_tree contracts.Close) ≡ 1
unfolding conts
conts-Close = ap conts (contract_tree-Close)

pub others-Close : others (contract_tree contracts.Close) ≡ 0
unfolding others
others-Close = ap others (contract_tree-Close)

pub code-Pay : (p : Party) (y : Payee) (t : Token) (v : Value) (c : Contract) (f : Flat) → code_contract (contract_tree (contracts.Pay p y t v c)) f ≡ (let n = code_value (value_tree v) f in let k = code_contract (contract_tree c) n.0 in put_cont k.0 (nodes.Pay p y t n.1 k.1))
unfolding code_contract
code-Pay p y t v c f = ap (λ t. code_contract t f) (contract_tree-Pay p y t v c)

pub high-Pay : (p : Party) (y : Payee) (t : Token) (v : Value) (c : Contract) → contract_height (contract_tree (contracts.Pay p y t v c)) ≡ 1 + max (value_height (value_tree v)) (contract_height (contract_tree c))
high-Pay p y t v c = omega (arith, ap contract_height (contract_tree-Pay p y t v c))

pub conts-Pay : (p : Party) (y : Payee) (t : Token) (v : Value) (c : Contract) → conts (contract_tree (contracts.Pay p y t v c)) ≡ 1 + conts (contract_tree c)
unfolding conts
conts-Pay p y t v c = ap conts (contract_tree-Pay p y t v c)

pub others-Pay : (p : Party) (y : Payee) (t : Token) (v : Value) (c : Contract) → others (contract_tree (contracts.Pay p y t v c)) ≡ value_size (value_tree v) + others (contract_tree c)
unfolding others
others-Pay p y t v c = ap others (contract_tree-Pay p y t v c)

pub code-If : (o : Observation) (c d : Contract) (f : Flat) → code_contract (contract_tree (contracts.If o c d)) f ≡ (let n = code_observation (observation_tree o) f in let j = code_contract (contract_tree c) n.0 in let k = code_contract (contract_tree d) j.0 in put_cont k.0 (nodes.If n.1 j.1 k.1))
unfolding code_contract
code-If o c d f = ap (λ t. code_contract t f) (contract_tree-If o c d)

pub high-If : (o : Observation) (c d : Contract) → contract_height (contract_tree (contracts.If o c d)) ≡ 1 + max (observation_height (observation_tree o)) (max (contract_height (contract_tree c)) (contract_height (contract_tree d)))
high-If o c d = omega (arith, ap contract_height (contract_tree-If o c d))

pub conts-If : (o : Observation) (c d : Contract) → conts (contract_tree (contracts.If o c d)) ≡ 1 + conts (contract_tree c) + conts (contract_tree d)
unfolding conts
conts-If o c d = ap conts (contract_tree-If o c d)

pub others-If : (o : Observation) (c d : Contract) → others (contract_tree (contracts.If o c d)) ≡ observation_size (observation_tree o) + others (contract_tree c) + others (contract_tree d)
unfolding others
others-If o c d = ap others (contract_tree-If o c d)

pub code-When : (ks : List Case) (t : ℤ) (c : Contract) (f : Flat) → code_contract (contract_tree (contracts.When ks t c)) f ≡ (let ns = code_cases (case_trees (map case_tree ks)) f in let k = code_contract (contract_tree c) ns.0 in put_cont k.0 (nodes.When ns.1 t k.1))
unfolding code_contract
code-When ks t c f = ap (λ t. code_contract t f) (contract_tree-When ks t c)

pub high-When : (ks : List Case) (t : ℤ) (c : Contract) → contract_height (contract_tree (contracts.When ks t c)) ≡ 1 + max (cases_height (case_trees (map case_tree ks))) (contract_height (contract_tree c))
high-When ks t c = omega (arith, ap contract_height (contract_tree-When ks t c))

pub conts-When : (ks : List Case) (t : ℤ) (c : Contract) → conts (contract_tree (contracts.When ks t c)) ≡ 1 + conts_of (case_trees (map case_tree ks)) + conts (contract_tree c)
unfolding conts
conts-When ks t c = ap conts (contract_tree-When ks t c)

pub others-When : (ks : List Case) (t : ℤ) (c : Contract) → others (contract_tree (contracts.When ks t c)) ≡ others_of (case_trees (map case_tree ks)) + others (contract_tree c)
unfolding others
others-When ks t c = ap others (contract_tree-When ks t c)

pub code-Let : (x : List ℕ) (v : Value) (c : Contract) (f : Flat) → code_contract (contract_tree (contracts.Let x v c)) f ≡ (let n = code_value (value_tree v) f in let k = code_contract (contract_tree c) n.0 in put_cont k.0 (nodes.Let x n.1 k.1))
unfolding code_contract
code-Let x v c f = ap (λ t. code_contract t f) (contract_tree-Let x v c)

pub high-Let : (x : List ℕ) (v : Value) (c : Contract) → contract_height (contract_tree (contracts.Let x v c)) ≡ 1 + max (value_height (value_tree v)) (contract_height (contract_tree c))
high-Let x v c = omega (arith, ap contract_height (contract_tree-Let x v c))

pub conts-Let : (x : List ℕ) (v : Value) (c : Contract) → conts (contract_tree (contracts.Let x v c)) ≡ 1 + conts (contract_tree c)
unfolding conts
conts-Let x v c = ap conts (contract_tree-Let x v c)

pub others-Let : (x : List ℕ) (v : Value) (c : Contract) → others (contract_tree (contracts.Let x v c)) ≡ value_size (value_tree v) + others (contract_tree c)
unfolding others
others-Let x v c = ap others (contract_tree-Let x v c)

pub code-Assert : (o : Observation) (c : Contract) (f : Flat) → code_contract (contract_tree (contracts.Assert o c)) f ≡ (let n = code_observation (observation_tree o) f in let k = code_contract (contract_tree c) n.0 in put_cont k.0 (nodes.Assert n.1 k.1))
unfolding code_contract
code-Assert o c f = ap (λ t. code_contract t f) (contract_tree-Assert o c)

pub high-Assert : (o : Observation) (c : Contract) → contract_height (contract_tree (contracts.Assert o c)) ≡ 1 + max (observation_height (observation_tree o)) (contract_height (contract_tree c))
high-Assert o c = omega (arith, ap contract_height (contract_tree-Assert o c))

pub conts-Assert : (o : Observation) (c : Contract) → conts (contract_tree (contracts.Assert o c)) ≡ 1 + conts (contract_tree c)
unfolding conts
conts-Assert o c = ap conts (contract_tree-Assert o c)

pub others-Assert : (o : Observation) (c : Contract) → others (contract_tree (contracts.Assert o c)) ≡ observation_size (observation_tree o) + others (contract_tree c)
unfolding others
others-Assert o c = ap others (contract_tree-Assert o c)

pub listed-last : (f g : Flat) (ns : List ℕ) → Keeps f g → AllStand f (map a_case ns) → AllStand g (map a_case ns)
listed-last f g [] e s = tt
listed-last f g (n ∷ ns) e s = (omega (arith, s.0, e.cases), listed-last f g ns e s.1)

pub listed-same : (f g : Flat) (ns : List ℕ) → Keeps f g → AllStand f (map a_case ns) → map (trees g).case ns ≡ map (trees f).case ns
listed-same f g [] e s = refl
listed-same f g (n ∷ ns) e s = cc (e.case n s.0, listed-same f g ns e s.1)

pub conts-some : (c : ContractTree) → 0 < conts c
unfolding conts
conts-some close = omega arith
conts-some (pay p y t v c) = omega arith
conts-some (if_obs o c d) = omega arith
conts-some (when ks t c) = omega arith
conts-some (let_be x v c) = omega arith
conts-some (assert o c) = omega arith

pub ruleset contract_forms = (
  conts-some,
  code-Close,
  high-Close,
  conts-Close,
  others-Close,
  code-Pay,
  high-Pay,
  conts-Pay,
  others-Pay,
  code-If,
  high-If,
  conts-If,
  others-If,
  code-When,
  high-When,
  conts-When,
  others-When,
  code-Let,
  high-Let,
  conts-Let,
  others-Let,
  code-Assert,
  high-Assert,
  conts-Assert,
  others-Assert,
)

-- ---- a case

pub action-lasts : (f g : Flat) (a : ActionTree) (n : ℕ) → Keeps f g → ActionStands f a n → ActionStands g a n
action-lasts f g (deposit p q t v) n e s = (omega (arith, s.0, e.values), e.value n s.0 ∙ s.1)
action-lasts f g (choice id bounds) n e s = tt
action-lasts f g (notify o) n e s = (omega (arith, s.0, e.observations), e.observation n s.0 ∙ s.1)

pub action-low : (a : ActionTree) (h : ℕ) → case_over a h ≤ 999 → case_over a 0 ≤ 999
action-low (deposit p q t v) h l = omega arith
action-low (choice id bounds) h l = omega arith
action-low (notify o) h l = omega arith

pub then-low : (a : ActionTree) (h : ℕ) → case_over a h ≤ 999 → h ≤ 999
then-low (deposit p q t v) h l = omega arith
then-low (choice id bounds) h l = omega arith
then-low (notify o) h l = omega arith

-- a case is higher than what it waits for, and than its continuation
pub case-high : (a : ActionTree) (h : ℕ) → case_over a h ≡ max (case_over a 0) (1 + h)
case-high (deposit p q t v) h = omega arith
case-high (choice id bounds) h = omega arith
case-high (notify o) h = omega arith

pub ruleset case_levels = (case-high)

pub ruleset case_forms = (action-low, case_tree-parts)

-- ---- cases one by one

pub code-first : (k : Case) (ks : List Case) (f : Flat) → code_cases (case_trees (map case_tree (k ∷ ks))) f
    ≡ (let e = code_case (action_tree k.action) (code_contract (contract_tree k.then)) f in let ns = code_cases (case_trees (map case_tree ks)) e.0 in (ns.0, e.1 ∷ ns.1))
unfolding code_contract
code-first k ks f = λ i. let e = code_case (case_tree-parts k i).0 (code_contract (case_tree-parts k i).1) f in let ns = code_cases (case_trees (map case_tree ks)) e.0 in (ns.0, e.1 ∷ ns.1)

pub high-first : (k : Case) (ks : List Case) → cases_height (case_trees (map case_tree (k ∷ ks))) ≡ max (case_over (action_tree k.action) (contract_height (contract_tree k.then))) (cases_height (case_trees (map case_tree ks)))
high-first k ks = λ i. max (case_over (case_tree-parts k i).0 (contract_height (case_tree-parts k i).1)) (cases_height (case_trees (map case_tree ks)))

pub conts-first : (k : Case) (ks : List Case) → conts_of (case_trees (map case_tree (k ∷ ks))) ≡ conts (contract_tree k.then) + conts_of (case_trees (map case_tree ks))
unfolding conts
conts-first k ks = λ i. conts (case_tree-parts k i).1 + conts_of (case_trees (map case_tree ks))

pub others-first : (k : Case) (ks : List Case) → others_of (case_trees (map case_tree (k ∷ ks))) ≡ 1 + action_size (action_tree k.action) + others (contract_tree k.then) + others_of (case_trees (map case_tree ks))
unfolding others
others-first k ks = λ i. 1 + action_size (case_tree-parts k i).0 + others (case_tree-parts k i).1 + others_of (case_trees (map case_tree ks))

pub ruleset cases_forms = (code-first, high-first, conts-first, others-first)

-- ---- the tree of each form, over continuations that are lent

pub is-Pay : (d : Contract) (p : Party) (y : Payee) (t : Token) (v : Value) (c j : Contract) → d ≡ contracts.Pay p y t v c → j ≡ c → contract_tree d ≡ pay p y t (value_tree v) (contract_tree j)
is-Pay d p y t v c j is lent = ap contract_tree is ∙ (contract_tree-Pay p y t v c ∙ ap (λ x. pay p y t (value_tree v) (contract_tree x)) (sym lent))

pub is-Let : (d : Contract) (x : List ℕ) (v : Value) (c j : Contract) → d ≡ contracts.Let x v c → j ≡ c → contract_tree d ≡ let_be x (value_tree v) (contract_tree j)
is-Let d x v c j is lent = ap contract_tree is ∙ (contract_tree-Let x v c ∙ ap (λ k. let_be x (value_tree v) (contract_tree k)) (sym lent))

pub is-Assert : (d : Contract) (o : Observation) (c j : Contract) → d ≡ contracts.Assert o c → j ≡ c → contract_tree d ≡ assert (observation_tree o) (contract_tree j)
is-Assert d o c j is lent = ap contract_tree is ∙ (contract_tree-Assert o c ∙ ap (λ x. assert (observation_tree o) (contract_tree x)) (sym lent))

pub is-If : (d : Contract) (o : Observation) (c e j k : Contract) → d ≡ contracts.If o c e → j ≡ c → k ≡ e → contract_tree d ≡ if_obs (observation_tree o) (contract_tree j) (contract_tree k)
is-If d o c e j k is lent other = ap contract_tree is ∙ (contract_tree-If o c e ∙ (λ i. if_obs (observation_tree o) (contract_tree (sym lent i)) (contract_tree (sym other i))))

pub is-When : (d : Contract) (ks : List Case) (t : ℤ) (c j : Contract) → d ≡ contracts.When ks t c → j ≡ c → contract_tree d ≡ when (case_trees (map case_tree ks)) t (contract_tree j)
is-When d ks t c j is lent = ap contract_tree is ∙ (contract_tree-When ks t c ∙ ap (λ x. when (case_trees (map case_tree ks)) t (contract_tree x)) (sym lent))
