-- The code, the size and the height of each form, of the code's values.
use Rattle.std.proofs.Common.{◌≡◌, ap, ℕ, ℤ, ◌+◌, ◌<◌, max, List, arith}
use Rattle.contract.specs.Names.declared.party.Party.{Party}
use Rattle.contract.specs.Names.declared.token.Token.{Token}
use Rattle.contract.specs.Names.declared.choice_id.ChoiceId.{ChoiceId}
use Rattle.contract.specs.declared.value.Value.{Value}
use Rattle.contract.specs.declared.value.Value as values
use Rattle.contract.specs.declared.value.Observation.{Observation}
use Rattle.contract.specs.declared.value.Observation as observations
use Rattle.contract.specs.Tree.{value_tree, observation_tree}
use Rattle.contract.specs.Tree.{ValueTree, available_money, constant, neg_value, add_value, sub_value, mul_value, div_value, choice_value, time_interval_start, time_interval_end, use_value, cond_value}
use Rattle.contract.specs.Tree.{ObservationTree, and_obs, or_obs, not_obs, chose_something, value_ge, value_gt, value_lt, value_le, value_eq, true_obs, false_obs}
use Rattle.contract.proofs.TreeLaws.{value_tree-AvailableMoney, value_tree-Constant, value_tree-NegValue, value_tree-AddValue, value_tree-SubValue, value_tree-MulValue, value_tree-DivValue, value_tree-ChoiceValue, value_tree-TimeIntervalStart, value_tree-TimeIntervalEnd, value_tree-UseValue, value_tree-Cond}
use Rattle.contract.proofs.TreeLaws.{observation_tree-AndObs, observation_tree-OrObs, observation_tree-NotObs, observation_tree-ChoseSomething, observation_tree-ValueGE, observation_tree-ValueGT, observation_tree-ValueLT, observation_tree-ValueLE, observation_tree-ValueEQ, observation_tree-TrueObs, observation_tree-FalseObs}
use Rattle.table.specs.Nodes.declared.value_node.ValueNode.TheVariants as value_nodes
use Rattle.table.specs.Nodes.declared.observation_node.ObservationNode.TheVariants as observation_nodes
use Rattle.table.specs.Flat.{Flat}
use Rattle.table.specs.Heights.{value_height, observation_height}
use Rattle.lowering.specs.Sizes.{value_size, observation_size}
use Rattle.table_builder.specs.Putting.{put_value, put_observation}
use Rattle.lowering.specs.Code.{code_value, code_observation}

pub code-AvailableMoney : (p : Party) (t : Token) (f : Flat) → code_value (value_tree (values.AvailableMoney p t)) f ≡ put_value f (value_nodes.AvailableMoney p t)
unfolding code_value
code-AvailableMoney p t f = ap (λ t. code_value t f) (value_tree-AvailableMoney p t)

pub high-AvailableMoney : (p : Party) (t : Token) → value_height (value_tree (values.AvailableMoney p t)) ≡ 0
high-AvailableMoney p t = ap value_height (value_tree-AvailableMoney p t)

pub size-AvailableMoney : (p : Party) (t : Token) → value_size (value_tree (values.AvailableMoney p t)) ≡ 1
unfolding value_size
size-AvailableMoney p t = ap value_size (value_tree-AvailableMoney p t)

pub code-Constant : (n : ℤ) (f : Flat) → code_value (value_tree (values.Constant n)) f ≡ put_value f (value_nodes.Constant n)
unfolding code_value
code-Constant n f = ap (λ t. code_value t f) (value_tree-Constant n)

pub high-Constant : (n : ℤ) → value_height (value_tree (values.Constant n)) ≡ 0
high-Constant n = ap value_height (value_tree-Constant n)

pub size-Constant : (n : ℤ) → value_size (value_tree (values.Constant n)) ≡ 1
unfolding value_size
size-Constant n = ap value_size (value_tree-Constant n)

pub code-NegValue : (v : Value) (f : Flat) → code_value (value_tree (values.NegValue v)) f ≡ put_value (code_value (value_tree v) f).0 (value_nodes.NegValue (code_value (value_tree v) f).1)
unfolding code_value
code-NegValue v f = ap (λ t. code_value t f) (value_tree-NegValue v)

pub high-NegValue : (v : Value) → value_height (value_tree (values.NegValue v)) ≡ 1 + value_height (value_tree v)
high-NegValue v = omega (arith, ap value_height (value_tree-NegValue v))

pub size-NegValue : (v : Value) → value_size (value_tree (values.NegValue v)) ≡ 1 + value_size (value_tree v)
unfolding value_size
size-NegValue v = ap value_size (value_tree-NegValue v)

pub code-AddValue : (v w : Value) (f : Flat) → code_value (value_tree (values.AddValue v w)) f ≡ put_value (code_value (value_tree w) (code_value (value_tree v) f).0).0 (value_nodes.AddValue (code_value (value_tree v) f).1 (code_value (value_tree w) (code_value (value_tree v) f).0).1)
unfolding code_value
code-AddValue v w f = ap (λ t. code_value t f) (value_tree-AddValue v w)

pub high-AddValue : (v w : Value) → value_height (value_tree (values.AddValue v w)) ≡ 1 + max (value_height (value_tree v)) (value_height (value_tree w))
high-AddValue v w = omega (arith, ap value_height (value_tree-AddValue v w))

pub size-AddValue : (v w : Value) → value_size (value_tree (values.AddValue v w)) ≡ 1 + value_size (value_tree v) + value_size (value_tree w)
unfolding value_size
size-AddValue v w = ap value_size (value_tree-AddValue v w)

pub code-SubValue : (v w : Value) (f : Flat) → code_value (value_tree (values.SubValue v w)) f ≡ put_value (code_value (value_tree w) (code_value (value_tree v) f).0).0 (value_nodes.SubValue (code_value (value_tree v) f).1 (code_value (value_tree w) (code_value (value_tree v) f).0).1)
unfolding code_value
code-SubValue v w f = ap (λ t. code_value t f) (value_tree-SubValue v w)

pub high-SubValue : (v w : Value) → value_height (value_tree (values.SubValue v w)) ≡ 1 + max (value_height (value_tree v)) (value_height (value_tree w))
high-SubValue v w = omega (arith, ap value_height (value_tree-SubValue v w))

pub size-SubValue : (v w : Value) → value_size (value_tree (values.SubValue v w)) ≡ 1 + value_size (value_tree v) + value_size (value_tree w)
unfolding value_size
size-SubValue v w = ap value_size (value_tree-SubValue v w)

pub code-MulValue : (v w : Value) (f : Flat) → code_value (value_tree (values.MulValue v w)) f ≡ put_value (code_value (value_tree w) (code_value (value_tree v) f).0).0 (value_nodes.MulValue (code_value (value_tree v) f).1 (code_value (value_tree w) (code_value (value_tree v) f).0).1)
unfolding code_value
code-MulValue v w f = ap (λ t. code_value t f) (value_tree-MulValue v w)

pub high-MulValue : (v w : Value) → value_height (value_tree (values.MulValue v w)) ≡ 1 + max (value_height (value_tree v)) (value_height (value_tree w))
high-MulValue v w = omega (arith, ap value_height (value_tree-MulValue v w))

pub size-MulValue : (v w : Value) → value_size (value_tree (values.MulValue v w)) ≡ 1 + value_size (value_tree v) + value_size (value_tree w)
unfolding value_size
size-MulValue v w = ap value_size (value_tree-MulValue v w)

pub code-DivValue : (v w : Value) (f : Flat) → code_value (value_tree (values.DivValue v w)) f ≡ put_value (code_value (value_tree w) (code_value (value_tree v) f).0).0 (value_nodes.DivValue (code_value (value_tree v) f).1 (code_value (value_tree w) (code_value (value_tree v) f).0).1)
unfolding code_value
code-DivValue v w f = ap (λ t. code_value t f) (value_tree-DivValue v w)

pub high-DivValue : (v w : Value) → value_height (value_tree (values.DivValue v w)) ≡ 1 + max (value_height (value_tree v)) (value_height (value_tree w))
high-DivValue v w = omega (arith, ap value_height (value_tree-DivValue v w))

pub size-DivValue : (v w : Value) → value_size (value_tree (values.DivValue v w)) ≡ 1 + value_size (value_tree v) + value_size (value_tree w)
unfolding value_size
size-DivValue v w = ap value_size (value_tree-DivValue v w)

pub code-ChoiceValue : (id : ChoiceId) (f : Flat) → code_value (value_tree (values.ChoiceValue id)) f ≡ put_value f (value_nodes.ChoiceValue id)
unfolding code_value
code-ChoiceValue id f = ap (λ t. code_value t f) (value_tree-ChoiceValue id)

pub high-ChoiceValue : (id : ChoiceId) → value_height (value_tree (values.ChoiceValue id)) ≡ 0
high-ChoiceValue id = ap value_height (value_tree-ChoiceValue id)

pub size-ChoiceValue : (id : ChoiceId) → value_size (value_tree (values.ChoiceValue id)) ≡ 1
unfolding value_size
size-ChoiceValue id = ap value_size (value_tree-ChoiceValue id)

pub code-TimeIntervalStart : (f : Flat) → code_value (value_tree values.TimeIntervalStart) f ≡ put_value f value_nodes.TimeIntervalStart
unfolding code_value
code-TimeIntervalStart f = ap (λ t. code_value t f) (value_tree-TimeIntervalStart)

pub high-TimeIntervalStart : value_height (value_tree values.TimeIntervalStart) ≡ 0
high-TimeIntervalStart = ap value_height (value_tree-TimeIntervalStart)

pub size-TimeIntervalStart : value_size (value_tree values.TimeIntervalStart) ≡ 1
unfolding value_size
size-TimeIntervalStart = ap value_size (value_tree-TimeIntervalStart)

pub code-TimeIntervalEnd : (f : Flat) → code_value (value_tree values.TimeIntervalEnd) f ≡ put_value f value_nodes.TimeIntervalEnd
unfolding code_value
code-TimeIntervalEnd f = ap (λ t. code_value t f) (value_tree-TimeIntervalEnd)

pub high-TimeIntervalEnd : value_height (value_tree values.TimeIntervalEnd) ≡ 0
high-TimeIntervalEnd = ap value_height (value_tree-TimeIntervalEnd)

pub size-TimeIntervalEnd : value_size (value_tree values.TimeIntervalEnd) ≡ 1
unfolding value_size
size-TimeIntervalEnd = ap value_size (value_tree-TimeIntervalEnd)

pub code-UseValue : (x : List ℕ) (f : Flat) → code_value (value_tree (values.UseValue x)) f ≡ put_value f (value_nodes.UseValue x)
unfolding code_value
code-UseValue x f = ap (λ t. code_value t f) (value_tree-UseValue x)

pub high-UseValue : (x : List ℕ) → value_height (value_tree (values.UseValue x)) ≡ 0
high-UseValue x = ap value_height (value_tree-UseValue x)

pub size-UseValue : (x : List ℕ) → value_size (value_tree (values.UseValue x)) ≡ 1
unfolding value_size
size-UseValue x = ap value_size (value_tree-UseValue x)

pub code-Cond : (o : Observation) (v w : Value) (f : Flat) → code_value (value_tree (values.Cond o v w)) f ≡ put_value (code_value (value_tree w) (code_value (value_tree v) (code_observation (observation_tree o) f).0).0).0 (value_nodes.Cond (code_observation (observation_tree o) f).1 (code_value (value_tree v) (code_observation (observation_tree o) f).0).1 (code_value (value_tree w) (code_value (value_tree v) (code_observation (observation_tree o) f).0).0).1)
unfolding code_value
code-Cond o v w f = ap (λ t. code_value t f) (value_tree-Cond o v w)

pub high-Cond : (o : Observation) (v w : Value) → value_height (value_tree (values.Cond o v w)) ≡ 1 + max (observation_height (observation_tree o)) (max (value_height (value_tree v)) (value_height (value_tree w)))
high-Cond o v w = omega (arith, ap value_height (value_tree-Cond o v w))

pub size-Cond : (o : Observation) (v w : Value) → value_size (value_tree (values.Cond o v w)) ≡ 1 + observation_size (observation_tree o) + value_size (value_tree v) + value_size (value_tree w)
unfolding value_size
size-Cond o v w = ap value_size (value_tree-Cond o v w)

-- none is without nodes
pub value-some : (t : ValueTree) → 0 < value_size t
unfolding value_size
value-some (available_money p k) = omega arith
value-some (constant n) = omega arith
value-some (neg_value v) = omega arith
value-some (add_value v w) = omega arith
value-some (sub_value v w) = omega arith
value-some (mul_value v w) = omega arith
value-some (div_value v w) = omega arith
value-some (choice_value id) = omega arith
value-some time_interval_start = omega arith
value-some time_interval_end = omega arith
value-some (use_value x) = omega arith
value-some (cond_value o v w) = omega arith

pub ruleset value_sizes = (value-some)

pub ruleset value_forms = (
  code-AvailableMoney,
  high-AvailableMoney,
  size-AvailableMoney,
  code-Constant,
  high-Constant,
  size-Constant,
  code-NegValue,
  high-NegValue,
  size-NegValue,
  code-AddValue,
  high-AddValue,
  size-AddValue,
  code-SubValue,
  high-SubValue,
  size-SubValue,
  code-MulValue,
  high-MulValue,
  size-MulValue,
  code-DivValue,
  high-DivValue,
  size-DivValue,
  code-ChoiceValue,
  high-ChoiceValue,
  size-ChoiceValue,
  code-TimeIntervalStart,
  high-TimeIntervalStart,
  size-TimeIntervalStart,
  code-TimeIntervalEnd,
  high-TimeIntervalEnd,
  size-TimeIntervalEnd,
  code-UseValue,
  high-UseValue,
  size-UseValue,
  code-Cond,
  high-Cond,
  size-Cond,
  value-some,
)

pub code-AndObs : (o q : Observation) (f : Flat) → code_observation (observation_tree (observations.AndObs o q)) f ≡ put_observation (code_observation (observation_tree q) (code_observation (observation_tree o) f).0).0 (observation_nodes.AndObs (code_observation (observation_tree o) f).1 (code_observation (observation_tree q) (code_observation (observation_tree o) f).0).1)
unfolding code_value
code-AndObs o q f = ap (λ t. code_observation t f) (observation_tree-AndObs o q)

pub high-AndObs : (o q : Observation) → observation_height (observation_tree (observations.AndObs o q)) ≡ 1 + max (observation_height (observation_tree o)) (observation_height (observation_tree q))
high-AndObs o q = omega (arith, ap observation_height (observation_tree-AndObs o q))

pub size-AndObs : (o q : Observation) → observation_size (observation_tree (observations.AndObs o q)) ≡ 1 + observation_size (observation_tree o) + observation_size (observation_tree q)
unfolding value_size
size-AndObs o q = ap observation_size (observation_tree-AndObs o q)

pub code-OrObs : (o q : Observation) (f : Flat) → code_observation (observation_tree (observations.OrObs o q)) f ≡ put_observation (code_observation (observation_tree q) (code_observation (observation_tree o) f).0).0 (observation_nodes.OrObs (code_observation (observation_tree o) f).1 (code_observation (observation_tree q) (code_observation (observation_tree o) f).0).1)
unfolding code_value
code-OrObs o q f = ap (λ t. code_observation t f) (observation_tree-OrObs o q)

pub high-OrObs : (o q : Observation) → observation_height (observation_tree (observations.OrObs o q)) ≡ 1 + max (observation_height (observation_tree o)) (observation_height (observation_tree q))
high-OrObs o q = omega (arith, ap observation_height (observation_tree-OrObs o q))

pub size-OrObs : (o q : Observation) → observation_size (observation_tree (observations.OrObs o q)) ≡ 1 + observation_size (observation_tree o) + observation_size (observation_tree q)
unfolding value_size
size-OrObs o q = ap observation_size (observation_tree-OrObs o q)

pub code-NotObs : (o : Observation) (f : Flat) → code_observation (observation_tree (observations.NotObs o)) f ≡ put_observation (code_observation (observation_tree o) f).0 (observation_nodes.NotObs (code_observation (observation_tree o) f).1)
unfolding code_value
code-NotObs o f = ap (λ t. code_observation t f) (observation_tree-NotObs o)

pub high-NotObs : (o : Observation) → observation_height (observation_tree (observations.NotObs o)) ≡ 1 + observation_height (observation_tree o)
high-NotObs o = omega (arith, ap observation_height (observation_tree-NotObs o))

pub size-NotObs : (o : Observation) → observation_size (observation_tree (observations.NotObs o)) ≡ 1 + observation_size (observation_tree o)
unfolding value_size
size-NotObs o = ap observation_size (observation_tree-NotObs o)

pub code-ChoseSomething : (id : ChoiceId) (f : Flat) → code_observation (observation_tree (observations.ChoseSomething id)) f ≡ put_observation f (observation_nodes.ChoseSomething id)
unfolding code_value
code-ChoseSomething id f = ap (λ t. code_observation t f) (observation_tree-ChoseSomething id)

pub high-ChoseSomething : (id : ChoiceId) → observation_height (observation_tree (observations.ChoseSomething id)) ≡ 0
high-ChoseSomething id = ap observation_height (observation_tree-ChoseSomething id)

pub size-ChoseSomething : (id : ChoiceId) → observation_size (observation_tree (observations.ChoseSomething id)) ≡ 1
unfolding value_size
size-ChoseSomething id = ap observation_size (observation_tree-ChoseSomething id)

pub code-ValueGE : (v w : Value) (f : Flat) → code_observation (observation_tree (observations.ValueGE v w)) f ≡ put_observation (code_value (value_tree w) (code_value (value_tree v) f).0).0 (observation_nodes.ValueGE (code_value (value_tree v) f).1 (code_value (value_tree w) (code_value (value_tree v) f).0).1)
unfolding code_value
code-ValueGE v w f = ap (λ t. code_observation t f) (observation_tree-ValueGE v w)

pub high-ValueGE : (v w : Value) → observation_height (observation_tree (observations.ValueGE v w)) ≡ 1 + max (value_height (value_tree v)) (value_height (value_tree w))
high-ValueGE v w = omega (arith, ap observation_height (observation_tree-ValueGE v w))

pub size-ValueGE : (v w : Value) → observation_size (observation_tree (observations.ValueGE v w)) ≡ 1 + value_size (value_tree v) + value_size (value_tree w)
unfolding value_size
size-ValueGE v w = ap observation_size (observation_tree-ValueGE v w)

pub code-ValueGT : (v w : Value) (f : Flat) → code_observation (observation_tree (observations.ValueGT v w)) f ≡ put_observation (code_value (value_tree w) (code_value (value_tree v) f).0).0 (observation_nodes.ValueGT (code_value (value_tree v) f).1 (code_value (value_tree w) (code_value (value_tree v) f).0).1)
unfolding code_value
code-ValueGT v w f = ap (λ t. code_observation t f) (observation_tree-ValueGT v w)

pub high-ValueGT : (v w : Value) → observation_height (observation_tree (observations.ValueGT v w)) ≡ 1 + max (value_height (value_tree v)) (value_height (value_tree w))
high-ValueGT v w = omega (arith, ap observation_height (observation_tree-ValueGT v w))

pub size-ValueGT : (v w : Value) → observation_size (observation_tree (observations.ValueGT v w)) ≡ 1 + value_size (value_tree v) + value_size (value_tree w)
unfolding value_size
size-ValueGT v w = ap observation_size (observation_tree-ValueGT v w)

pub code-ValueLT : (v w : Value) (f : Flat) → code_observation (observation_tree (observations.ValueLT v w)) f ≡ put_observation (code_value (value_tree w) (code_value (value_tree v) f).0).0 (observation_nodes.ValueLT (code_value (value_tree v) f).1 (code_value (value_tree w) (code_value (value_tree v) f).0).1)
unfolding code_value
code-ValueLT v w f = ap (λ t. code_observation t f) (observation_tree-ValueLT v w)

pub high-ValueLT : (v w : Value) → observation_height (observation_tree (observations.ValueLT v w)) ≡ 1 + max (value_height (value_tree v)) (value_height (value_tree w))
high-ValueLT v w = omega (arith, ap observation_height (observation_tree-ValueLT v w))

pub size-ValueLT : (v w : Value) → observation_size (observation_tree (observations.ValueLT v w)) ≡ 1 + value_size (value_tree v) + value_size (value_tree w)
unfolding value_size
size-ValueLT v w = ap observation_size (observation_tree-ValueLT v w)

pub code-ValueLE : (v w : Value) (f : Flat) → code_observation (observation_tree (observations.ValueLE v w)) f ≡ put_observation (code_value (value_tree w) (code_value (value_tree v) f).0).0 (observation_nodes.ValueLE (code_value (value_tree v) f).1 (code_value (value_tree w) (code_value (value_tree v) f).0).1)
unfolding code_value
code-ValueLE v w f = ap (λ t. code_observation t f) (observation_tree-ValueLE v w)

pub high-ValueLE : (v w : Value) → observation_height (observation_tree (observations.ValueLE v w)) ≡ 1 + max (value_height (value_tree v)) (value_height (value_tree w))
high-ValueLE v w = omega (arith, ap observation_height (observation_tree-ValueLE v w))

pub size-ValueLE : (v w : Value) → observation_size (observation_tree (observations.ValueLE v w)) ≡ 1 + value_size (value_tree v) + value_size (value_tree w)
unfolding value_size
size-ValueLE v w = ap observation_size (observation_tree-ValueLE v w)

pub code-ValueEQ : (v w : Value) (f : Flat) → code_observation (observation_tree (observations.ValueEQ v w)) f ≡ put_observation (code_value (value_tree w) (code_value (value_tree v) f).0).0 (observation_nodes.ValueEQ (code_value (value_tree v) f).1 (code_value (value_tree w) (code_value (value_tree v) f).0).1)
unfolding code_value
code-ValueEQ v w f = ap (λ t. code_observation t f) (observation_tree-ValueEQ v w)

pub high-ValueEQ : (v w : Value) → observation_height (observation_tree (observations.ValueEQ v w)) ≡ 1 + max (value_height (value_tree v)) (value_height (value_tree w))
high-ValueEQ v w = omega (arith, ap observation_height (observation_tree-ValueEQ v w))

pub size-ValueEQ : (v w : Value) → observation_size (observation_tree (observations.ValueEQ v w)) ≡ 1 + value_size (value_tree v) + value_size (value_tree w)
unfolding value_size
size-ValueEQ v w = ap observation_size (observation_tree-ValueEQ v w)

pub code-TrueObs : (f : Flat) → code_observation (observation_tree observations.TrueObs) f ≡ put_observation f observation_nodes.TrueObs
unfolding code_value
code-TrueObs f = ap (λ t. code_observation t f) (observation_tree-TrueObs)

pub high-TrueObs : observation_height (observation_tree observations.TrueObs) ≡ 0
high-TrueObs = ap observation_height (observation_tree-TrueObs)

pub size-TrueObs : observation_size (observation_tree observations.TrueObs) ≡ 1
unfolding value_size
size-TrueObs = ap observation_size (observation_tree-TrueObs)

pub code-FalseObs : (f : Flat) → code_observation (observation_tree observations.FalseObs) f ≡ put_observation f observation_nodes.FalseObs
unfolding code_value
code-FalseObs f = ap (λ t. code_observation t f) (observation_tree-FalseObs)

pub high-FalseObs : observation_height (observation_tree observations.FalseObs) ≡ 0
high-FalseObs = ap observation_height (observation_tree-FalseObs)

pub size-FalseObs : observation_size (observation_tree observations.FalseObs) ≡ 1
unfolding value_size
size-FalseObs = ap observation_size (observation_tree-FalseObs)

-- none is without nodes
pub observation-some : (t : ObservationTree) → 0 < observation_size t
unfolding value_size
observation-some (and_obs o q) = omega arith
observation-some (or_obs o q) = omega arith
observation-some (not_obs o) = omega arith
observation-some (chose_something id) = omega arith
observation-some (value_ge v w) = omega arith
observation-some (value_gt v w) = omega arith
observation-some (value_lt v w) = omega arith
observation-some (value_le v w) = omega arith
observation-some (value_eq v w) = omega arith
observation-some true_obs = omega arith
observation-some false_obs = omega arith

pub ruleset observation_sizes = (observation-some)

pub ruleset observation_forms = (
  code-AndObs,
  high-AndObs,
  size-AndObs,
  code-OrObs,
  high-OrObs,
  size-OrObs,
  code-NotObs,
  high-NotObs,
  size-NotObs,
  code-ChoseSomething,
  high-ChoseSomething,
  size-ChoseSomething,
  code-ValueGE,
  high-ValueGE,
  size-ValueGE,
  code-ValueGT,
  high-ValueGT,
  size-ValueGT,
  code-ValueLT,
  high-ValueLT,
  size-ValueLT,
  code-ValueLE,
  high-ValueLE,
  size-ValueLE,
  code-ValueEQ,
  high-ValueEQ,
  size-ValueEQ,
  code-TrueObs,
  high-TrueObs,
  size-TrueObs,
  code-FalseObs,
  high-FalseObs,
  size-FalseObs,
  observation-some,
)
