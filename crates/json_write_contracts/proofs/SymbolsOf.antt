-- The currency symbols of each form, from those of what is inside.
use Rattle.std.proofs.Common.{◌≡◌, ℕ, ℤ, ◌+◌, ◌<◌, ◌≤◌, List, [], ◌∷◌, ◌++◌, length, get_or, take, take_all, map, ap, sym, subst, ◌∙◌}
use Rattle.hex.specs.Hex.{IsBytes}
use Rattle.contract.specs.Names.declared.party.Party.{Party}
use Rattle.contract.specs.Names.declared.payee.Payee.{Payee}
use Rattle.contract.specs.Names.declared.token.Token.{Token}
use Rattle.contract.specs.Names.declared.choice_id.ChoiceId.{ChoiceId}
use Rattle.contract.specs.declared.value.Value.{Value}
use Rattle.contract.specs.declared.value.Value as values
use Rattle.contract.specs.declared.value.Observation.{Observation}
use Rattle.contract.specs.declared.value.Observation as observations
use Rattle.contract.specs.declared.tree.Case.{Case}
use Rattle.contract.specs.declared.tree.Contract.{Contract}
use Rattle.contract.specs.declared.tree.Contract as made
use Rattle.contract.specs.Tree.{ActionTree, ContractTree, value_tree, observation_tree, action_tree, case_trees, case_tree, contract_tree}
use Rattle.contract.proofs.TreeLaws as laws
use Rattle.json_write_contracts.proofs.ListedLaws.{map-push, take-more}
use Rattle.json_write_contracts.specs.Symbols.{ValueSymbols, ObservationSymbols, ActionSymbols, ContractSymbols, CasesSymbols, CaseSymbols, ListSymbols}

pub value-symbols-AvailableMoney : (p : Party) (t : Token) → IsBytes t.symbol → ValueSymbols (value_tree (values.AvailableMoney p t))
value-symbols-AvailableMoney p t h = subst ValueSymbols (sym (laws.value_tree-AvailableMoney p t)) h

pub value-symbols-Constant : (n : ℤ) → ValueSymbols (value_tree (values.Constant n))
value-symbols-Constant n = subst ValueSymbols (sym (laws.value_tree-Constant n)) tt

pub value-symbols-NegValue : (v : Value) → ValueSymbols (value_tree v) → ValueSymbols (value_tree (values.NegValue v))
value-symbols-NegValue v h = subst ValueSymbols (sym (laws.value_tree-NegValue v)) h

pub value-symbols-AddValue : (v w : Value) → ValueSymbols (value_tree v) → ValueSymbols (value_tree w) → ValueSymbols (value_tree (values.AddValue v w))
value-symbols-AddValue v w h i = subst ValueSymbols (sym (laws.value_tree-AddValue v w)) (h, i)

pub value-symbols-SubValue : (v w : Value) → ValueSymbols (value_tree v) → ValueSymbols (value_tree w) → ValueSymbols (value_tree (values.SubValue v w))
value-symbols-SubValue v w h i = subst ValueSymbols (sym (laws.value_tree-SubValue v w)) (h, i)

pub value-symbols-MulValue : (v w : Value) → ValueSymbols (value_tree v) → ValueSymbols (value_tree w) → ValueSymbols (value_tree (values.MulValue v w))
value-symbols-MulValue v w h i = subst ValueSymbols (sym (laws.value_tree-MulValue v w)) (h, i)

pub value-symbols-DivValue : (v w : Value) → ValueSymbols (value_tree v) → ValueSymbols (value_tree w) → ValueSymbols (value_tree (values.DivValue v w))
value-symbols-DivValue v w h i = subst ValueSymbols (sym (laws.value_tree-DivValue v w)) (h, i)

pub value-symbols-ChoiceValue : (id : ChoiceId) → ValueSymbols (value_tree (values.ChoiceValue id))
value-symbols-ChoiceValue id = subst ValueSymbols (sym (laws.value_tree-ChoiceValue id)) tt

pub value-symbols-TimeIntervalStart : ValueSymbols (value_tree values.TimeIntervalStart)
value-symbols-TimeIntervalStart = subst ValueSymbols (sym laws.value_tree-TimeIntervalStart) tt

pub value-symbols-TimeIntervalEnd : ValueSymbols (value_tree values.TimeIntervalEnd)
value-symbols-TimeIntervalEnd = subst ValueSymbols (sym laws.value_tree-TimeIntervalEnd) tt

pub value-symbols-UseValue : (x : List ℕ) → ValueSymbols (value_tree (values.UseValue x))
value-symbols-UseValue x = subst ValueSymbols (sym (laws.value_tree-UseValue x)) tt

pub value-symbols-Cond : (o : Observation) (v w : Value) → ObservationSymbols (observation_tree o) → ValueSymbols (value_tree v) → ValueSymbols (value_tree w) → ValueSymbols (value_tree (values.Cond o v w))
value-symbols-Cond o v w h i j = subst ValueSymbols (sym (laws.value_tree-Cond o v w)) (h, (i, j))

pub observation-symbols-AndObs : (o q : Observation) → ObservationSymbols (observation_tree o) → ObservationSymbols (observation_tree q) → ObservationSymbols (observation_tree (observations.AndObs o q))
observation-symbols-AndObs o q h i = subst ObservationSymbols (sym (laws.observation_tree-AndObs o q)) (h, i)

pub observation-symbols-OrObs : (o q : Observation) → ObservationSymbols (observation_tree o) → ObservationSymbols (observation_tree q) → ObservationSymbols (observation_tree (observations.OrObs o q))
observation-symbols-OrObs o q h i = subst ObservationSymbols (sym (laws.observation_tree-OrObs o q)) (h, i)

pub observation-symbols-NotObs : (o : Observation) → ObservationSymbols (observation_tree o) → ObservationSymbols (observation_tree (observations.NotObs o))
observation-symbols-NotObs o h = subst ObservationSymbols (sym (laws.observation_tree-NotObs o)) h

pub observation-symbols-ChoseSomething : (id : ChoiceId) → ObservationSymbols (observation_tree (observations.ChoseSomething id))
observation-symbols-ChoseSomething id = subst ObservationSymbols (sym (laws.observation_tree-ChoseSomething id)) tt

pub observation-symbols-ValueGE : (v w : Value) → ValueSymbols (value_tree v) → ValueSymbols (value_tree w) → ObservationSymbols (observation_tree (observations.ValueGE v w))
observation-symbols-ValueGE v w h i = subst ObservationSymbols (sym (laws.observation_tree-ValueGE v w)) (h, i)

pub observation-symbols-ValueGT : (v w : Value) → ValueSymbols (value_tree v) → ValueSymbols (value_tree w) → ObservationSymbols (observation_tree (observations.ValueGT v w))
observation-symbols-ValueGT v w h i = subst ObservationSymbols (sym (laws.observation_tree-ValueGT v w)) (h, i)

pub observation-symbols-ValueLT : (v w : Value) → ValueSymbols (value_tree v) → ValueSymbols (value_tree w) → ObservationSymbols (observation_tree (observations.ValueLT v w))
observation-symbols-ValueLT v w h i = subst ObservationSymbols (sym (laws.observation_tree-ValueLT v w)) (h, i)

pub observation-symbols-ValueLE : (v w : Value) → ValueSymbols (value_tree v) → ValueSymbols (value_tree w) → ObservationSymbols (observation_tree (observations.ValueLE v w))
observation-symbols-ValueLE v w h i = subst ObservationSymbols (sym (laws.observation_tree-ValueLE v w)) (h, i)

pub observation-symbols-ValueEQ : (v w : Value) → ValueSymbols (value_tree v) → ValueSymbols (value_tree w) → ObservationSymbols (observation_tree (observations.ValueEQ v w))
observation-symbols-ValueEQ v w h i = subst ObservationSymbols (sym (laws.observation_tree-ValueEQ v w)) (h, i)

pub observation-symbols-TrueObs : ObservationSymbols (observation_tree observations.TrueObs)
observation-symbols-TrueObs = subst ObservationSymbols (sym laws.observation_tree-TrueObs) tt

pub observation-symbols-FalseObs : ObservationSymbols (observation_tree observations.FalseObs)
observation-symbols-FalseObs = subst ObservationSymbols (sym laws.observation_tree-FalseObs) tt

cases-symbols : (ks : List (ActionTree × ContractTree)) → ListSymbols ks → CasesSymbols (case_trees ks)
cases-symbols [] h = tt
cases-symbols (k ∷ ks) h = (h.0, cases-symbols ks h.1)

pub contract-symbols-Close : ContractSymbols (contract_tree made.Close)
contract-symbols-Close = subst ContractSymbols (sym laws.contract_tree-Close) tt

pub contract-symbols-Pay : (a : Party) (p : Payee) (t : Token) (v : Value) (c : Contract) → IsBytes t.symbol → ValueSymbols (value_tree v) → ContractSymbols (contract_tree c) → ContractSymbols (contract_tree (made.Pay a p t v c))
contract-symbols-Pay a p t v c h i j = subst ContractSymbols (sym (laws.contract_tree-Pay a p t v c)) (h, (i, j))

pub contract-symbols-If : (o : Observation) (c d : Contract) → ObservationSymbols (observation_tree o) → ContractSymbols (contract_tree c) → ContractSymbols (contract_tree d) → ContractSymbols (contract_tree (made.If o c d))
contract-symbols-If o c d h i j = subst ContractSymbols (sym (laws.contract_tree-If o c d)) (h, (i, j))

pub contract-symbols-When : (ks : List Case) (t : ℤ) (c : Contract) → ListSymbols (map (λ k. case_tree k) ks) → ContractSymbols (contract_tree c) → ContractSymbols (contract_tree (made.When ks t c))
contract-symbols-When ks t c h i = subst ContractSymbols (sym (laws.contract_tree-When ks t c)) (cases-symbols (map case_tree ks) h, i)

pub contract-symbols-Let : (x : List ℕ) (v : Value) (c : Contract) → ValueSymbols (value_tree v) → ContractSymbols (contract_tree c) → ContractSymbols (contract_tree (made.Let x v c))
contract-symbols-Let x v c h i = subst ContractSymbols (sym (laws.contract_tree-Let x v c)) (h, i)

pub contract-symbols-Assert : (o : Observation) (c : Contract) → ObservationSymbols (observation_tree o) → ContractSymbols (contract_tree c) → ContractSymbols (contract_tree (made.Assert o c))
contract-symbols-Assert o c h i = subst ContractSymbols (sym (laws.contract_tree-Assert o c)) (h, i)

pub case-symbols : (k : Case) → ActionSymbols (action_tree k.action) → ContractSymbols (contract_tree k.then) → CaseSymbols (case_tree k)
case-symbols k h i = subst CaseSymbols (sym (laws.case_tree-parts k)) (h, i)

symbols-push : (ks : List (ActionTree × ContractTree)) (k : ActionTree × ContractTree) → ListSymbols ks → CaseSymbols k → ListSymbols (ks ++ k ∷ [])
symbols-push [] k h i = (i, tt)
symbols-push (l ∷ ks) k h i = (h.0, symbols-push ks k h.1 i)

-- one more case
pub symbols-more : (xs : List Case) (i : ℕ) (x : Case) → i < length xs → x ≡ get_or xs i x → CaseSymbols (case_tree x) → ListSymbols (map (λ k. case_tree k) (take i xs)) → ListSymbols (map (λ k. case_tree k) (take (i + 1) xs))
symbols-more xs i x below is here before =
    subst ListSymbols (sym (ap (map (λ k. case_tree k)) (take-more xs i x below is) ∙ map-push (λ k. case_tree k) (take i xs) x)) (symbols-push (map (λ k. case_tree k) (take i xs)) (case_tree x) before here)

-- all cases
pub symbols-over : (all xs : List Case) (i : ℕ) → xs ≡ all → length xs ≤ i → ListSymbols (map (λ k. case_tree k) (take i xs)) → ListSymbols (map (λ k. case_tree k) all)
symbols-over all xs i same over h = subst (λ ys. ListSymbols (map (λ k. case_tree k) ys)) (take_all i xs over ∙ same) h
