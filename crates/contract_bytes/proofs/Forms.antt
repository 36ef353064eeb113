-- The spelling of each form, of the code's values.
use Rattle.std.proofs.Common.{◌≡◌, refl, ◌∙◌, ap, ℕ, ℤ, ◌+◌, List, [], ◌∷◌, ◌++◌, length, map, add-one}
use Rattle.std.specs.List.{flat_map}
use Rattle.contract.specs.Names.declared.party.Party.{Party}
use Rattle.contract.specs.Names.declared.payee.Payee.{Payee}
use Rattle.contract.specs.Names.declared.token.Token.{Token}
use Rattle.contract.specs.Names.declared.choice_id.ChoiceId.{ChoiceId}
use Rattle.contract.specs.declared.value.Value.{Value}
use Rattle.contract.specs.declared.value.Value as values
use Rattle.contract.specs.declared.value.Observation.{Observation}
use Rattle.contract.specs.declared.value.Observation as observations
use Rattle.contract.specs.declared.tree.Action.TheVariants as actions
use Rattle.contract.specs.declared.tree.Case.{Case}
use Rattle.contract.specs.declared.tree.Contract.{Contract}
use Rattle.contract.specs.declared.tree.Contract as contracts
use Rattle.contract.specs.Tree.{value_tree, observation_tree, action_tree, case_trees, case_tree, contract_tree}
use Rattle.contract.proofs.TreeLaws.{value_tree-Constant, value_tree-NegValue, value_tree-AddValue, value_tree-SubValue, value_tree-MulValue, value_tree-DivValue, value_tree-ChoiceValue, value_tree-TimeIntervalStart, value_tree-TimeIntervalEnd, value_tree-UseValue}
use Rattle.contract.proofs.TreeLaws.{observation_tree-AndObs, observation_tree-OrObs, observation_tree-NotObs, observation_tree-ChoseSomething, observation_tree-ValueGE, observation_tree-ValueGT, observation_tree-ValueLT, observation_tree-ValueLE, observation_tree-ValueEQ, observation_tree-TrueObs, observation_tree-FalseObs}
use Rattle.contract.proofs.TreeLaws.{contract_tree-Close, contract_tree-Pay, contract_tree-If, contract_tree-When, contract_tree-Let, contract_tree-Assert, case_tree-parts}
use Rattle.contract_bytes.specs.Numbers.{length_bytes, number_bytes, time_bytes, text_bytes}
use Rattle.contract_bytes.specs.Names.{party_bytes, token_bytes, choice_id_bytes, payee_bytes}
use Rattle.contract_bytes.specs.Values.{value_bytes, observation_bytes}
use Rattle.contract_bytes.specs.Trees.{action_bytes, contract_bytes, cases_bytes, case_count}

-- ---- values and observations

pub value_bytes-Constant : (n : ℤ) → value_bytes (value_tree (values.Constant n)) ≡ 0x01 ∷ number_bytes n
unfolding value_bytes
value_bytes-Constant n = ap value_bytes (value_tree-Constant n)

pub value_bytes-NegValue : (v : Value) → value_bytes (value_tree (values.NegValue v)) ≡ 0x02 ∷ value_bytes (value_tree v)
unfolding value_bytes
value_bytes-NegValue v = ap value_bytes (value_tree-NegValue v)

pub value_bytes-AddValue : (v w : Value) → value_bytes (value_tree (values.AddValue v w)) ≡ 0x03 ∷ value_bytes (value_tree v) ++ value_bytes (value_tree w)
unfolding value_bytes
value_bytes-AddValue v w = ap value_bytes (value_tree-AddValue v w)

pub value_bytes-SubValue : (v w : Value) → value_bytes (value_tree (values.SubValue v w)) ≡ 0x04 ∷ value_bytes (value_tree v) ++ value_bytes (value_tree w)
unfolding value_bytes
value_bytes-SubValue v w = ap value_bytes (value_tree-SubValue v w)

pub value_bytes-MulValue : (v w : Value) → value_bytes (value_tree (values.MulValue v w)) ≡ 0x05 ∷ value_bytes (value_tree v) ++ value_bytes (value_tree w)
unfolding value_bytes
value_bytes-MulValue v w = ap value_bytes (value_tree-MulValue v w)

pub value_bytes-DivValue : (v w : Value) → value_bytes (value_tree (values.DivValue v w)) ≡ 0x06 ∷ value_bytes (value_tree v) ++ value_bytes (value_tree w)
unfolding value_bytes
value_bytes-DivValue v w = ap value_bytes (value_tree-DivValue v w)

pub value_bytes-ChoiceValue : (id : ChoiceId) → value_bytes (value_tree (values.ChoiceValue id)) ≡ 0x07 ∷ choice_id_bytes id
unfolding value_bytes
value_bytes-ChoiceValue id = ap value_bytes (value_tree-ChoiceValue id)

pub value_bytes-TimeIntervalStart : value_bytes (value_tree values.TimeIntervalStart) ≡ 0x08 ∷ []
unfolding value_bytes
value_bytes-TimeIntervalStart = ap value_bytes value_tree-TimeIntervalStart

pub value_bytes-TimeIntervalEnd : value_bytes (value_tree values.TimeIntervalEnd) ≡ 0x09 ∷ []
unfolding value_bytes
value_bytes-TimeIntervalEnd = ap value_bytes value_tree-TimeIntervalEnd

pub value_bytes-UseValue : (name : List ℕ) → value_bytes (value_tree (values.UseValue name)) ≡ 0x0a ∷ text_bytes name
unfolding value_bytes
value_bytes-UseValue name = ap value_bytes (value_tree-UseValue name)

pub observation_bytes-AndObs : (o p : Observation) → observation_bytes (observation_tree (observations.AndObs o p)) ≡ 0x00 ∷ observation_bytes (observation_tree o) ++ observation_bytes (observation_tree p)
unfolding observation_bytes
observation_bytes-AndObs o p = ap observation_bytes (observation_tree-AndObs o p)

pub observation_bytes-OrObs : (o p : Observation) → observation_bytes (observation_tree (observations.OrObs o p)) ≡ 0x01 ∷ observation_bytes (observation_tree o) ++ observation_bytes (observation_tree p)
unfolding observation_bytes
observation_bytes-OrObs o p = ap observation_bytes (observation_tree-OrObs o p)

pub observation_bytes-NotObs : (o : Observation) → observation_bytes (observation_tree (observations.NotObs o)) ≡ 0x02 ∷ observation_bytes (observation_tree o)
unfolding observation_bytes
observation_bytes-NotObs o = ap observation_bytes (observation_tree-NotObs o)

pub observation_bytes-ChoseSomething : (id : ChoiceId) → observation_bytes (observation_tree (observations.ChoseSomething id)) ≡ 0x03 ∷ choice_id_bytes id
unfolding observation_bytes
observation_bytes-ChoseSomething id = ap observation_bytes (observation_tree-ChoseSomething id)

pub observation_bytes-ValueGE : (v w : Value) → observation_bytes (observation_tree (observations.ValueGE v w)) ≡ 0x04 ∷ value_bytes (value_tree v) ++ value_bytes (value_tree w)
unfolding observation_bytes
observation_bytes-ValueGE v w = ap observation_bytes (observation_tree-ValueGE v w)

pub observation_bytes-ValueGT : (v w : Value) → observation_bytes (observation_tree (observations.ValueGT v w)) ≡ 0x05 ∷ value_bytes (value_tree v) ++ value_bytes (value_tree w)
unfolding observation_bytes
observation_bytes-ValueGT v w = ap observation_bytes (observation_tree-ValueGT v w)

pub observation_bytes-ValueLT : (v w : Value) → observation_bytes (observation_tree (observations.ValueLT v w)) ≡ 0x06 ∷ value_bytes (value_tree v) ++ value_bytes (value_tree w)
unfolding observation_bytes
observation_bytes-ValueLT v w = ap observation_bytes (observation_tree-ValueLT v w)

pub observation_bytes-ValueLE : (v w : Value) → observation_bytes (observation_tree (observations.ValueLE v w)) ≡ 0x07 ∷ value_bytes (value_tree v) ++ value_bytes (value_tree w)
unfolding observation_bytes
observation_bytes-ValueLE v w = ap observation_bytes (observation_tree-ValueLE v w)

pub observation_bytes-ValueEQ : (v w : Value) → observation_bytes (observation_tree (observations.ValueEQ v w)) ≡ 0x08 ∷ value_bytes (value_tree v) ++ value_bytes (value_tree w)
unfolding observation_bytes
observation_bytes-ValueEQ v w = ap observation_bytes (observation_tree-ValueEQ v w)

pub observation_bytes-TrueObs : observation_bytes (observation_tree observations.TrueObs) ≡ 0x09 ∷ []
unfolding observation_bytes
observation_bytes-TrueObs = ap observation_bytes observation_tree-TrueObs

pub observation_bytes-FalseObs : observation_bytes (observation_tree observations.FalseObs) ≡ 0x0a ∷ []
unfolding observation_bytes
observation_bytes-FalseObs = ap observation_bytes observation_tree-FalseObs

-- ---- actions

pub action_bytes-Notify : (o : Observation) → action_bytes (action_tree (actions.Notify o)) ≡ 0x02 ∷ observation_bytes (observation_tree o)
unfolding action_bytes
action_bytes-Notify o = refl

-- ---- contracts

pub contract_bytes-Close : contract_bytes (contract_tree contracts.Close) ≡ 0x00 ∷ []
unfolding contract_bytes
contract_bytes-Close = ap contract_bytes contract_tree-Close

pub contract_bytes-Pay : (p : Party) (y : Payee) (t : Token) (v : Value) (c : Contract) → contract_bytes (contract_tree (contracts.Pay p y t v c)) ≡ 0x01 ∷ party_bytes p ++ payee_bytes y ++ token_bytes t ++ value_bytes (value_tree v) ++ contract_bytes (contract_tree c)
unfolding contract_bytes
contract_bytes-Pay p y t v c = ap contract_bytes (contract_tree-Pay p y t v c)

pub contract_bytes-If : (o : Observation) (c d : Contract) → contract_bytes (contract_tree (contracts.If o c d)) ≡ 0x02 ∷ observation_bytes (observation_tree o) ++ contract_bytes (contract_tree c) ++ contract_bytes (contract_tree d)
unfolding contract_bytes
contract_bytes-If o c d = ap contract_bytes (contract_tree-If o c d)

pub contract_bytes-Let : (name : List ℕ) (v : Value) (c : Contract) → contract_bytes (contract_tree (contracts.Let name v c)) ≡ 0x04 ∷ text_bytes name ++ value_bytes (value_tree v) ++ contract_bytes (contract_tree c)
unfolding contract_bytes
contract_bytes-Let name v c = ap contract_bytes (contract_tree-Let name v c)

pub contract_bytes-Assert : (o : Observation) (c : Contract) → contract_bytes (contract_tree (contracts.Assert o c)) ≡ 0x05 ∷ observation_bytes (observation_tree o) ++ contract_bytes (contract_tree c)
unfolding contract_bytes
contract_bytes-Assert o c = ap contract_bytes (contract_tree-Assert o c)

pub case_count-length : (cases : List Case) → case_count (case_trees (map case_tree cases)) ≡ length cases
case_count-length [] = refl
case_count-length (k ∷ ks) = ap (λ n. n + 1) (case_count-length ks) ∙ add-one (length ks)

cases_bytes-each : (cases : List Case) → cases_bytes (case_trees (map case_tree cases)) ≡ flat_map (λ k. action_bytes (action_tree k.action) ++ contract_bytes (contract_tree k.then)) cases
unfolding contract_bytes
cases_bytes-each [] = refl
cases_bytes-each (k ∷ ks) =
    λ i. action_bytes (case_tree-parts k i).0 ++ contract_bytes (case_tree-parts k i).1 ++ cases_bytes-each ks i

pub contract_bytes-When : (cases : List Case) (t : ℤ) (c : Contract) → contract_bytes (contract_tree (contracts.When cases t c))
    ≡ 0x03 ∷ length_bytes (length cases) ++ flat_map (λ k. action_bytes (action_tree k.action) ++ contract_bytes (contract_tree k.then)) cases ++ time_bytes t ++ contract_bytes (contract_tree c)
unfolding contract_bytes
contract_bytes-When cases t c =
    ap contract_bytes (contract_tree-When cases t c)
    ∙ (λ i. 0x03 ∷ length_bytes (case_count-length cases i) ++ cases_bytes-each cases i ++ time_bytes t ++ contract_bytes (contract_tree c))
