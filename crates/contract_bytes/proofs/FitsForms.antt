-- A value, an observation or a contract fits where its parts do, form by form.
use Rattle.std.proofs.Common.{sym, subst, ℕ, ℤ, ◌<◌, ◌^◌, List, [], ◌∷◌, length, map}
use Rattle.std.specs.List.{All}
use Rattle.std.proofs.lemmas.List.Elements.{All-head, All-tail}
use Rattle.contract.specs.Names.declared.party.Party.{Party}
use Rattle.contract.specs.Names.declared.payee.Payee.{Payee}
use Rattle.contract.specs.Names.declared.token.Token.{Token}
use Rattle.contract.specs.Names.declared.choice_id.ChoiceId.{ChoiceId}
use Rattle.contract.specs.declared.value.Value.{Value}
use Rattle.contract.specs.declared.value.Value as values
use Rattle.contract.specs.declared.value.Observation.{Observation}
use Rattle.contract.specs.declared.value.Observation as observations
use Rattle.contract.specs.declared.tree.Case.{Case}
use Rattle.contract.specs.declared.tree.Contract.{Contract}
use Rattle.contract.specs.declared.tree.Contract as contracts
use Rattle.contract.specs.Tree.{value_tree, observation_tree, action_tree, case_trees, case_tree, contract_tree}
use Rattle.contract.proofs.TreeLaws.{value_tree-AvailableMoney, value_tree-Constant, value_tree-NegValue, value_tree-AddValue, value_tree-SubValue, value_tree-MulValue, value_tree-DivValue, value_tree-ChoiceValue, value_tree-TimeIntervalStart, value_tree-TimeIntervalEnd, value_tree-UseValue, value_tree-Cond}
use Rattle.contract.proofs.TreeLaws.{observation_tree-AndObs, observation_tree-OrObs, observation_tree-NotObs, observation_tree-ChoseSomething, observation_tree-ValueGE, observation_tree-ValueGT, observation_tree-ValueLT, observation_tree-ValueLE, observation_tree-ValueEQ, observation_tree-TrueObs, observation_tree-FalseObs}
use Rattle.contract.proofs.TreeLaws.{contract_tree-Close, contract_tree-Pay, contract_tree-If, contract_tree-When, contract_tree-Let, contract_tree-Assert, case_tree-parts}
use Rattle.contract_bytes.specs.Numbers.{NumberFits, TimeFits, TextFits}
use Rattle.contract_bytes.specs.Names.{PartyFits, TokenFits, ChoiceIdFits, PayeeFits}
use Rattle.contract_bytes.specs.Values.{ValueFits, ObservationFits}
use Rattle.contract_bytes.specs.Trees.{ActionFits, ContractFits, CasesFit}
use Rattle.contract_bytes.proofs.Forms.{case_count-length}

-- ---- values and observations

pub value_fits-AvailableMoney : (p : Party) (t : Token) → PartyFits p → TokenFits t → ValueFits (value_tree (values.AvailableMoney p t))
value_fits-AvailableMoney p t h0 h1 = subst ValueFits (sym (value_tree-AvailableMoney p t)) (h0, h1)

pub value_fits-Constant : (n : ℤ) → NumberFits n → ValueFits (value_tree (values.Constant n))
value_fits-Constant n h0 = subst ValueFits (sym (value_tree-Constant n)) h0

pub value_fits-NegValue : (v : Value) → ValueFits (value_tree v) → ValueFits (value_tree (values.NegValue v))
value_fits-NegValue v h0 = subst ValueFits (sym (value_tree-NegValue v)) h0

pub value_fits-AddValue : (v : Value) (w : Value) → ValueFits (value_tree v) → ValueFits (value_tree w) → ValueFits (value_tree (values.AddValue v w))
value_fits-AddValue v w h0 h1 = subst ValueFits (sym (value_tree-AddValue v w)) (h0, h1)

pub value_fits-SubValue : (v : Value) (w : Value) → ValueFits (value_tree v) → ValueFits (value_tree w) → ValueFits (value_tree (values.SubValue v w))
value_fits-SubValue v w h0 h1 = subst ValueFits (sym (value_tree-SubValue v w)) (h0, h1)

pub value_fits-MulValue : (v : Value) (w : Value) → ValueFits (value_tree v) → ValueFits (value_tree w) → ValueFits (value_tree (values.MulValue v w))
value_fits-MulValue v w h0 h1 = subst ValueFits (sym (value_tree-MulValue v w)) (h0, h1)

pub value_fits-DivValue : (v : Value) (w : Value) → ValueFits (value_tree v) → ValueFits (value_tree w) → ValueFits (value_tree (values.DivValue v w))
value_fits-DivValue v w h0 h1 = subst ValueFits (sym (value_tree-DivValue v w)) (h0, h1)

pub value_fits-ChoiceValue : (id : ChoiceId) → ChoiceIdFits id → ValueFits (value_tree (values.ChoiceValue id))
value_fits-ChoiceValue id h0 = subst ValueFits (sym (value_tree-ChoiceValue id)) h0

pub value_fits-TimeIntervalStart : ValueFits (value_tree values.TimeIntervalStart)
value_fits-TimeIntervalStart = subst ValueFits (sym value_tree-TimeIntervalStart) tt

pub value_fits-TimeIntervalEnd : ValueFits (value_tree values.TimeIntervalEnd)
value_fits-TimeIntervalEnd = subst ValueFits (sym value_tree-TimeIntervalEnd) tt

pub value_fits-UseValue : (x : List ℕ) → TextFits x → ValueFits (value_tree (values.UseValue x))
value_fits-UseValue x h0 = subst ValueFits (sym (value_tree-UseValue x)) h0

pub value_fits-Cond : (o : Observation) (v : Value) (w : Value) → ObservationFits (observation_tree o) → ValueFits (value_tree v) → ValueFits (value_tree w) → ValueFits (value_tree (values.Cond o v w))
value_fits-Cond o v w h0 h1 h2 = subst ValueFits (sym (value_tree-Cond o v w)) (h0, h1, h2)

pub observation_fits-AndObs : (o : Observation) (p : Observation) → ObservationFits (observation_tree o) → ObservationFits (observation_tree p) → ObservationFits (observation_tree (observations.AndObs o p))
observation_fits-AndObs o p h0 h1 = subst ObservationFits (sym (observation_tree-AndObs o p)) (h0, h1)

pub observation_fits-OrObs : (o : Observation) (p : Observation) → ObservationFits (observation_tree o) → ObservationFits (observation_tree p) → ObservationFits (observation_tree (observations.OrObs o p))
observation_fits-OrObs o p h0 h1 = subst ObservationFits (sym (observation_tree-OrObs o p)) (h0, h1)

pub observation_fits-NotObs : (o : Observation) → ObservationFits (observation_tree o) → ObservationFits (observation_tree (observations.NotObs o))
observation_fits-NotObs o h0 = subst ObservationFits (sym (observation_tree-NotObs o)) h0

pub observation_fits-ChoseSomething : (id : ChoiceId) → ChoiceIdFits id → ObservationFits (observation_tree (observations.ChoseSomething id))
observation_fits-ChoseSomething id h0 = subst ObservationFits (sym (observation_tree-ChoseSomething id)) h0

pub observation_fits-ValueGE : (v : Value) (w : Value) → ValueFits (value_tree v) → ValueFits (value_tree w) → ObservationFits (observation_tree (observations.ValueGE v w))
observation_fits-ValueGE v w h0 h1 = subst ObservationFits (sym (observation_tree-ValueGE v w)) (h0, h1)

pub observation_fits-ValueGT : (v : Value) (w : Value) → ValueFits (value_tree v) → ValueFits (value_tree w) → ObservationFits (observation_tree (observations.ValueGT v w))
observation_fits-ValueGT v w h0 h1 = subst ObservationFits (sym (observation_tree-ValueGT v w)) (h0, h1)

pub observation_fits-ValueLT : (v : Value) (w : Value) → ValueFits (value_tree v) → ValueFits (value_tree w) → ObservationFits (observation_tree (observations.ValueLT v w))
observation_fits-ValueLT v w h0 h1 = subst ObservationFits (sym (observation_tree-ValueLT v w)) (h0, h1)

pub observation_fits-ValueLE : (v : Value) (w : Value) → ValueFits (value_tree v) → ValueFits (value_tree w) → ObservationFits (observation_tree (observations.ValueLE v w))
observation_fits-ValueLE v w h0 h1 = subst ObservationFits (sym (observation_tree-ValueLE v w)) (h0, h1)

pub observation_fits-ValueEQ : (v : Value) (w : Value) → ValueFits (value_tree v) → ValueFits (value_tree w) → ObservationFits (observation_tree (observations.ValueEQ v w))
observation_fits-ValueEQ v w h0 h1 = subst ObservationFits (sym (observation_tree-ValueEQ v w)) (h0, h1)

pub observation_fits-TrueObs : ObservationFits (observation_tree observations.TrueObs)
observation_fits-TrueObs = subst ObservationFits (sym observation_tree-TrueObs) tt

pub observation_fits-FalseObs : ObservationFits (observation_tree observations.FalseObs)
observation_fits-FalseObs = subst ObservationFits (sym observation_tree-FalseObs) tt

-- ---- contracts

pub contract_fits-Close : ContractFits (contract_tree contracts.Close)
contract_fits-Close = subst ContractFits (sym contract_tree-Close) tt

pub contract_fits-Pay : (a : Party) (p : Payee) (t : Token) (v : Value) (c : Contract) → PartyFits a → PayeeFits p → TokenFits t → ValueFits (value_tree v) → ContractFits (contract_tree c) → ContractFits (contract_tree (contracts.Pay a p t v c))
contract_fits-Pay a p t v c h0 h1 h2 h3 h4 = subst ContractFits (sym (contract_tree-Pay a p t v c)) (h0, h1, h2, h3, h4)

pub contract_fits-If : (o : Observation) (c : Contract) (d : Contract) → ObservationFits (observation_tree o) → ContractFits (contract_tree c) → ContractFits (contract_tree d) → ContractFits (contract_tree (contracts.If o c d))
contract_fits-If o c d h0 h1 h2 = subst ContractFits (sym (contract_tree-If o c d)) (h0, h1, h2)

pub contract_fits-Let : (x : List ℕ) (v : Value) (c : Contract) → TextFits x → ValueFits (value_tree v) → ContractFits (contract_tree c) → ContractFits (contract_tree (contracts.Let x v c))
contract_fits-Let x v c h0 h1 h2 = subst ContractFits (sym (contract_tree-Let x v c)) (h0, h1, h2)

pub contract_fits-Assert : (o : Observation) (c : Contract) → ObservationFits (observation_tree o) → ContractFits (contract_tree c) → ContractFits (contract_tree (contracts.Assert o c))
contract_fits-Assert o c h0 h1 = subst ContractFits (sym (contract_tree-Assert o c)) (h0, h1)

-- the cases fit where the action and the continuation of each do
cases_fit-each : (cases : List Case) → All (λ k. ActionFits (action_tree k.action) × ContractFits (contract_tree k.then)) cases → CasesFit (case_trees (map case_tree cases))
cases_fit-each [] h = tt
cases_fit-each (k ∷ ks) h =
    let here = All-head (λ j. ActionFits (action_tree j.action) × ContractFits (contract_tree j.then)) k ks h in
    let rest = cases_fit-each ks (All-tail (λ j. ActionFits (action_tree j.action) × ContractFits (contract_tree j.then)) k ks h) in
    let parts = sym (case_tree-parts k) in
    (subst (λ p. ActionFits p.0) parts here.0, subst (λ p. ContractFits p.1) parts here.1, rest)

pub contract_fits-When : (cases : List Case) (t : ℤ) (c : Contract) → length cases < 2 ^ 64 → All (λ k. ActionFits (action_tree k.action) × ContractFits (contract_tree k.then)) cases → TimeFits t → ContractFits (contract_tree c)
    → ContractFits (contract_tree (contracts.When cases t c))
contract_fits-When cases t c few fit h then = subst ContractFits (sym (contract_tree-When cases t c)) (subst (λ n. n < 2 ^ 64) (sym (case_count-length cases)) few, cases_fit-each cases fit, h, then)
