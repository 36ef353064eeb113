-- The JSON value of each form of value and observation, and whether its numbers fit.
use Rattle.std.proofs.Common.{◌≡◌, ℕ, ℤ, true, false, ◌&&◌, Bool, List, ap, refl, ◌∙◌}
use Rattle.std.specs.Prelude.{codes}
use Rattle.serde_json.specs.Data.{boolean, string}
use Rattle.contract.specs.Names.declared.party.Party.{Party}
use Rattle.contract.specs.Names.declared.token.Token.{Token}
use Rattle.contract.specs.Names.declared.choice_id.ChoiceId.{ChoiceId}
use Rattle.contract.specs.declared.value.Value.{Value}
use Rattle.contract.specs.declared.value.Value as values
use Rattle.contract.specs.declared.value.Observation.{Observation}
use Rattle.contract.specs.declared.value.Observation as observations
use Rattle.contract.specs.Tree.{value_tree, observation_tree}
use Rattle.contract.proofs.TreeLaws as laws
use Rattle.json_write_contracts.specs.WrittenNames.{one, two, three, number_json, number_fits, party_json, token_json, choice_id_json}
use Rattle.json_write_contracts.specs.WrittenValues.{value_json, observation_json, value_fits, observation_fits}

and-swap : (a b : Bool) → (a && b) ≡ (b && a)
and-swap true true = refl
and-swap true false = refl
and-swap false true = refl
and-swap false false = refl

-- ---- values

pub value_json-AvailableMoney : (p : Party) (t : Token) → value_json (value_tree (values.AvailableMoney p t)) ≡ two (codes "amount_of_token") (token_json t) (codes "in_account") (party_json p)
value_json-AvailableMoney p t = ap value_json (laws.value_tree-AvailableMoney p t)

pub value_fits-AvailableMoney : (p : Party) (t : Token) → value_fits (value_tree (values.AvailableMoney p t)) ≡ true
value_fits-AvailableMoney p t = ap value_fits (laws.value_tree-AvailableMoney p t)

pub value_json-Constant : (n : ℤ) → value_json (value_tree (values.Constant n)) ≡ number_json n
value_json-Constant n = ap value_json (laws.value_tree-Constant n)

pub value_fits-Constant : (n : ℤ) → value_fits (value_tree (values.Constant n)) ≡ number_fits n
value_fits-Constant n = ap value_fits (laws.value_tree-Constant n)

pub value_json-NegValue : (v : Value) → value_json (value_tree (values.NegValue v)) ≡ one (codes "negate") (value_json (value_tree v))
value_json-NegValue v = ap value_json (laws.value_tree-NegValue v)

pub value_fits-NegValue : (v : Value) → value_fits (value_tree (values.NegValue v)) ≡ value_fits (value_tree v)
value_fits-NegValue v = ap value_fits (laws.value_tree-NegValue v)

pub value_json-AddValue : (v : Value) (w : Value) → value_json (value_tree (values.AddValue v w)) ≡ two (codes "add") (value_json (value_tree v)) (codes "and") (value_json (value_tree w))
value_json-AddValue v w = ap value_json (laws.value_tree-AddValue v w)

pub value_fits-AddValue : (v : Value) (w : Value) → value_fits (value_tree (values.AddValue v w)) ≡ (value_fits (value_tree v) && value_fits (value_tree w))
value_fits-AddValue v w = ap value_fits (laws.value_tree-AddValue v w)

pub value_json-SubValue : (v : Value) (w : Value) → value_json (value_tree (values.SubValue v w)) ≡ two (codes "minus") (value_json (value_tree w)) (codes "value") (value_json (value_tree v))
value_json-SubValue v w = ap value_json (laws.value_tree-SubValue v w)

pub value_fits-SubValue : (v : Value) (w : Value) → value_fits (value_tree (values.SubValue v w)) ≡ (value_fits (value_tree w) && value_fits (value_tree v))
value_fits-SubValue v w = ap value_fits (laws.value_tree-SubValue v w) ∙ and-swap (value_fits (value_tree v)) (value_fits (value_tree w))

pub value_json-MulValue : (v : Value) (w : Value) → value_json (value_tree (values.MulValue v w)) ≡ two (codes "multiply") (value_json (value_tree v)) (codes "times") (value_json (value_tree w))
value_json-MulValue v w = ap value_json (laws.value_tree-MulValue v w)

pub value_fits-MulValue : (v : Value) (w : Value) → value_fits (value_tree (values.MulValue v w)) ≡ (value_fits (value_tree v) && value_fits (value_tree w))
value_fits-MulValue v w = ap value_fits (laws.value_tree-MulValue v w)

pub value_json-DivValue : (v : Value) (w : Value) → value_json (value_tree (values.DivValue v w)) ≡ two (codes "by") (value_json (value_tree w)) (codes "divide") (value_json (value_tree v))
value_json-DivValue v w = ap value_json (laws.value_tree-DivValue v w)

pub value_fits-DivValue : (v : Value) (w : Value) → value_fits (value_tree (values.DivValue v w)) ≡ (value_fits (value_tree w) && value_fits (value_tree v))
value_fits-DivValue v w = ap value_fits (laws.value_tree-DivValue v w) ∙ and-swap (value_fits (value_tree v)) (value_fits (value_tree w))

pub value_json-ChoiceValue : (id : ChoiceId) → value_json (value_tree (values.ChoiceValue id)) ≡ one (codes "value_of_choice") (choice_id_json id)
value_json-ChoiceValue id = ap value_json (laws.value_tree-ChoiceValue id)

pub value_fits-ChoiceValue : (id : ChoiceId) → value_fits (value_tree (values.ChoiceValue id)) ≡ true
value_fits-ChoiceValue id = ap value_fits (laws.value_tree-ChoiceValue id)

pub value_json-TimeIntervalStart : value_json (value_tree values.TimeIntervalStart) ≡ string (codes "time_interval_start")
value_json-TimeIntervalStart = ap value_json laws.value_tree-TimeIntervalStart

pub value_fits-TimeIntervalStart : value_fits (value_tree values.TimeIntervalStart) ≡ true
value_fits-TimeIntervalStart = ap value_fits laws.value_tree-TimeIntervalStart

pub value_json-TimeIntervalEnd : value_json (value_tree values.TimeIntervalEnd) ≡ string (codes "time_interval_end")
value_json-TimeIntervalEnd = ap value_json laws.value_tree-TimeIntervalEnd

pub value_fits-TimeIntervalEnd : value_fits (value_tree values.TimeIntervalEnd) ≡ true
value_fits-TimeIntervalEnd = ap value_fits laws.value_tree-TimeIntervalEnd

pub value_json-UseValue : (x : List ℕ) → value_json (value_tree (values.UseValue x)) ≡ one (codes "use_value") (string x)
value_json-UseValue x = ap value_json (laws.value_tree-UseValue x)

pub value_fits-UseValue : (x : List ℕ) → value_fits (value_tree (values.UseValue x)) ≡ true
value_fits-UseValue x = ap value_fits (laws.value_tree-UseValue x)

pub value_json-Cond : (o : Observation) (v : Value) (w : Value) → value_json (value_tree (values.Cond o v w)) ≡ three (codes "else") (value_json (value_tree w)) (codes "if") (observation_json (observation_tree o)) (codes "then") (value_json (value_tree v))
value_json-Cond o v w = ap value_json (laws.value_tree-Cond o v w)

pub value_fits-Cond : (o : Observation) (v : Value) (w : Value) → value_fits (value_tree (values.Cond o v w)) ≡ (observation_fits (observation_tree o) && value_fits (value_tree v) && value_fits (value_tree w))
value_fits-Cond o v w = ap value_fits (laws.value_tree-Cond o v w)

-- ---- observations

pub observation_json-AndObs : (o : Observation) (q : Observation) → observation_json (observation_tree (observations.AndObs o q)) ≡ two (codes "and") (observation_json (observation_tree q)) (codes "both") (observation_json (observation_tree o))
observation_json-AndObs o q = ap observation_json (laws.observation_tree-AndObs o q)

pub observation_fits-AndObs : (o : Observation) (q : Observation) → observation_fits (observation_tree (observations.AndObs o q)) ≡ (observation_fits (observation_tree q) && observation_fits (observation_tree o))
observation_fits-AndObs o q = ap observation_fits (laws.observation_tree-AndObs o q) ∙ and-swap (observation_fits (observation_tree o)) (observation_fits (observation_tree q))

pub observation_json-OrObs : (o : Observation) (q : Observation) → observation_json (observation_tree (observations.OrObs o q)) ≡ two (codes "either") (observation_json (observation_tree o)) (codes "or") (observation_json (observation_tree q))
observation_json-OrObs o q = ap observation_json (laws.observation_tree-OrObs o q)

pub observation_fits-OrObs : (o : Observation) (q : Observation) → observation_fits (observation_tree (observations.OrObs o q)) ≡ (observation_fits (observation_tree o) && observation_fits (observation_tree q))
observation_fits-OrObs o q = ap observation_fits (laws.observation_tree-OrObs o q)

pub observation_json-NotObs : (o : Observation) → observation_json (observation_tree (observations.NotObs o)) ≡ one (codes "not") (observation_json (observation_tree o))
observation_json-NotObs o = ap observation_json (laws.observation_tree-NotObs o)

pub observation_fits-NotObs : (o : Observation) → observation_fits (observation_tree (observations.NotObs o)) ≡ observation_fits (observation_tree o)
observation_fits-NotObs o = ap observation_fits (laws.observation_tree-NotObs o)

pub observation_json-ChoseSomething : (id : ChoiceId) → observation_json (observation_tree (observations.ChoseSomething id)) ≡ one (codes "chose_something_for") (choice_id_json id)
observation_json-ChoseSomething id = ap observation_json (laws.observation_tree-ChoseSomething id)

pub observation_fits-ChoseSomething : (id : ChoiceId) → observation_fits (observation_tree (observations.ChoseSomething id)) ≡ true
observation_fits-ChoseSomething id = ap observation_fits (laws.observation_tree-ChoseSomething id)

pub observation_json-ValueGE : (v : Value) (w : Value) → observation_json (observation_tree (observations.ValueGE v w)) ≡ two (codes "ge_than") (value_json (value_tree w)) (codes "value") (value_json (value_tree v))
observation_json-ValueGE v w = ap observation_json (laws.observation_tree-ValueGE v w)

pub observation_fits-ValueGE : (v : Value) (w : Value) → observation_fits (observation_tree (observations.ValueGE v w)) ≡ (value_fits (value_tree w) && value_fits (value_tree v))
observation_fits-ValueGE v w = ap observation_fits (laws.observation_tree-ValueGE v w) ∙ and-swap (value_fits (value_tree v)) (value_fits (value_tree w))

pub observation_json-ValueGT : (v : Value) (w : Value) → observation_json (observation_tree (observations.ValueGT v w)) ≡ two (codes "gt") (value_json (value_tree w)) (codes "value") (value_json (value_tree v))
observation_json-ValueGT v w = ap observation_json (laws.observation_tree-ValueGT v w)

pub observation_fits-ValueGT : (v : Value) (w : Value) → observation_fits (observation_tree (observations.ValueGT v w)) ≡ (value_fits (value_tree w) && value_fits (value_tree v))
observation_fits-ValueGT v w = ap observation_fits (laws.observation_tree-ValueGT v w) ∙ and-swap (value_fits (value_tree v)) (value_fits (value_tree w))

pub observation_json-ValueLT : (v : Value) (w : Value) → observation_json (observation_tree (observations.ValueLT v w)) ≡ two (codes "lt") (value_json (value_tree w)) (codes "value") (value_json (value_tree v))
observation_json-ValueLT v w = ap observation_json (laws.observation_tree-ValueLT v w)

pub observation_fits-ValueLT : (v : Value) (w : Value) → observation_fits (observation_tree (observations.ValueLT v w)) ≡ (value_fits (value_tree w) && value_fits (value_tree v))
observation_fits-ValueLT v w = ap observation_fits (laws.observation_tree-ValueLT v w) ∙ and-swap (value_fits (value_tree v)) (value_fits (value_tree w))

pub observation_json-ValueLE : (v : Value) (w : Value) → observation_json (observation_tree (observations.ValueLE v w)) ≡ two (codes "le_than") (value_json (value_tree w)) (codes "value") (value_json (value_tree v))
observation_json-ValueLE v w = ap observation_json (laws.observation_tree-ValueLE v w)

pub observation_fits-ValueLE : (v : Value) (w : Value) → observation_fits (observation_tree (observations.ValueLE v w)) ≡ (value_fits (value_tree w) && value_fits (value_tree v))
observation_fits-ValueLE v w = ap observation_fits (laws.observation_tree-ValueLE v w) ∙ and-swap (value_fits (value_tree v)) (value_fits (value_tree w))

pub observation_json-ValueEQ : (v : Value) (w : Value) → observation_json (observation_tree (observations.ValueEQ v w)) ≡ two (codes "equal_to") (value_json (value_tree w)) (codes "value") (value_json (value_tree v))
observation_json-ValueEQ v w = ap observation_json (laws.observation_tree-ValueEQ v w)

pub observation_fits-ValueEQ : (v : Value) (w : Value) → observation_fits (observation_tree (observations.ValueEQ v w)) ≡ (value_fits (value_tree w) && value_fits (value_tree v))
observation_fits-ValueEQ v w = ap observation_fits (laws.observation_tree-ValueEQ v w) ∙ and-swap (value_fits (value_tree v)) (value_fits (value_tree w))

pub observation_json-TrueObs : observation_json (observation_tree observations.TrueObs) ≡ boolean true
observation_json-TrueObs = ap observation_json laws.observation_tree-TrueObs

pub observation_fits-TrueObs : observation_fits (observation_tree observations.TrueObs) ≡ true
observation_fits-TrueObs = ap observation_fits laws.observation_tree-TrueObs

pub observation_json-FalseObs : observation_json (observation_tree observations.FalseObs) ≡ boolean false
observation_json-FalseObs = ap observation_json laws.observation_tree-FalseObs

pub observation_fits-FalseObs : observation_fits (observation_tree observations.FalseObs) ≡ true
observation_fits-FalseObs = ap observation_fits laws.observation_tree-FalseObs
