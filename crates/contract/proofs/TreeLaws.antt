-- A contract and its tree determine each other.
use Rattle.std.proofs.Common.{◌≡◌, refl, sym, ◌∙◌, ap, subst, ℕ, ℤ, List, [], ◌∷◌, map}
use Rattle.states.specs.Names.declared.party.Party.{Party}
use Rattle.states.specs.Names.declared.payee.Payee.{Payee}
use Rattle.states.specs.Names.declared.token.Token.{Token}
use Rattle.states.specs.Names.declared.choice_id.ChoiceId.{ChoiceId}
use Rattle.contract.specs.declared.value.Value.{Value}
use Rattle.contract.specs.declared.value.Value as values
use Rattle.contract.specs.declared.value.Observation.{Observation}
use Rattle.contract.specs.declared.value.Observation as observations
use Rattle.contract.specs.declared.value.Observation.TheOpen.{Value-F, Observation-F}
use Rattle.contract.specs.declared.value.Observation.TheViews.{roll-Value, roll-Observation}
use Rattle.contract.specs.declared.value.Observation.TheFolds.{map-Value, map-Observation, fold-roll-Value, fold-roll-Observation, ind-Value, ind-Observation}
use Rattle.contract.specs.declared.value.Value.TheVariants.{rolls-AvailableMoney, rolls-Constant, rolls-NegValue, rolls-AddValue, rolls-SubValue, rolls-MulValue, rolls-DivValue, rolls-ChoiceValue, rolls-TimeIntervalStart, rolls-TimeIntervalEnd, rolls-UseValue, rolls-Cond}
use Rattle.contract.specs.declared.value.Observation.TheVariants.{rolls-AndObs, rolls-OrObs, rolls-NotObs, rolls-ChoseSomething, rolls-ValueGE, rolls-ValueGT, rolls-ValueLT, rolls-ValueLE, rolls-ValueEQ, rolls-TrueObs, rolls-FalseObs}
use Rattle.contract.specs.declared.tree.Action.{Action}
use Rattle.contract.specs.declared.tree.Action.TheVariants as actions
use Rattle.contract.specs.declared.tree.Contract.{Contract}
use Rattle.contract.specs.declared.tree.Contract as made
use Rattle.contract.specs.declared.tree.Case.{Case}
use Rattle.contract.specs.declared.tree.Contract.TheOpen.{Contract-F}
use Rattle.contract.specs.declared.tree.Contract.TheViews.{roll-Contract, roll-Case}
use Rattle.contract.specs.declared.tree.Contract.TheFolds.{map-Contract}
use Rattle.contract.specs.declared.tree.Contract.TheVariants.{rolls-Close, rolls-Pay, rolls-If, rolls-When, rolls-Let, rolls-Assert}
use Rattle.contract.specs.declared.tree.Contract.TheFolds.{fold-roll-Contract, fold_out-Case, ind-Contract}
use Rattle.contract.specs.Tree.{ValueTree, available_money, constant, neg_value, add_value, sub_value, mul_value, div_value, choice_value, time_interval_start, time_interval_end, use_value, cond_value}
use Rattle.contract.specs.Tree.{ObservationTree, and_obs, or_obs, not_obs, chose_something, value_ge, value_gt, value_lt, value_le, value_eq, true_obs, false_obs}
use Rattle.contract.specs.Tree.{ActionTree, deposit, choice, notify, ContractTree, CaseTrees, close, pay, if_obs, when, let_be, assert, no_cases, case_then}
use Rattle.contract.specs.Tree.{value_tree, value_level, observation_tree, observation_level, action_tree, case_trees, contract_tree, contract_level, case_tree, case_level}
use Rattle.contract.specs.TreeInverse.{value_of, observation_of, action_of, contract_of, cases_of}

-- ---- the tree of each form of value and observation

-- the tree of a value and of an observation of one level
at_value : (x : Value-F Observation Value) → value_tree (roll-Value x) ≡ value_level (map-Value Observation Value ObservationTree ValueTree observation_tree value_tree x)
at_value = fold-roll-Value ObservationTree ValueTree observation_level value_level

at_observation : (x : Observation-F Observation Value) → observation_tree (roll-Observation x) ≡ observation_level (map-Observation Observation Value ObservationTree ValueTree observation_tree value_tree x)
at_observation = fold-roll-Observation ObservationTree ValueTree observation_level value_level

pub value_tree-AvailableMoney : (p : Party) (t : Token) → value_tree (values.AvailableMoney p t) ≡ available_money p t
value_tree-AvailableMoney p t = ap value_tree (sym (rolls-AvailableMoney p t)) ∙ at_value (Value-F.AvailableMoney p t)

pub value_tree-Constant : (n : ℤ) → value_tree (values.Constant n) ≡ constant n
value_tree-Constant n = ap value_tree (sym (rolls-Constant n)) ∙ at_value (Value-F.Constant n)

pub value_tree-NegValue : (v : Value) → value_tree (values.NegValue v) ≡ neg_value (value_tree v)
value_tree-NegValue v = ap value_tree (sym (rolls-NegValue v)) ∙ at_value (Value-F.NegValue v)

pub value_tree-AddValue : (v : Value) (w : Value) → value_tree (values.AddValue v w) ≡ add_value (value_tree v) (value_tree w)
value_tree-AddValue v w = ap value_tree (sym (rolls-AddValue v w)) ∙ at_value (Value-F.AddValue v w)

pub value_tree-SubValue : (v : Value) (w : Value) → value_tree (values.SubValue v w) ≡ sub_value (value_tree v) (value_tree w)
value_tree-SubValue v w = ap value_tree (sym (rolls-SubValue v w)) ∙ at_value (Value-F.SubValue v w)

pub value_tree-MulValue : (v : Value) (w : Value) → value_tree (values.MulValue v w) ≡ mul_value (value_tree v) (value_tree w)
value_tree-MulValue v w = ap value_tree (sym (rolls-MulValue v w)) ∙ at_value (Value-F.MulValue v w)

pub value_tree-DivValue : (v : Value) (w : Value) → value_tree (values.DivValue v w) ≡ div_value (value_tree v) (value_tree w)
value_tree-DivValue v w = ap value_tree (sym (rolls-DivValue v w)) ∙ at_value (Value-F.DivValue v w)

pub value_tree-ChoiceValue : (id : ChoiceId) → value_tree (values.ChoiceValue id) ≡ choice_value id
value_tree-ChoiceValue id = ap value_tree (sym (rolls-ChoiceValue id)) ∙ at_value (Value-F.ChoiceValue id)

pub value_tree-TimeIntervalStart : value_tree values.TimeIntervalStart ≡ time_interval_start
value_tree-TimeIntervalStart = ap value_tree (sym rolls-TimeIntervalStart) ∙ at_value Value-F.TimeIntervalStart

pub value_tree-TimeIntervalEnd : value_tree values.TimeIntervalEnd ≡ time_interval_end
value_tree-TimeIntervalEnd = ap value_tree (sym rolls-TimeIntervalEnd) ∙ at_value Value-F.TimeIntervalEnd

pub value_tree-UseValue : (x : List ℕ) → value_tree (values.UseValue x) ≡ use_value x
value_tree-UseValue x = ap value_tree (sym (rolls-UseValue x)) ∙ at_value (Value-F.UseValue x)

pub value_tree-Cond : (o : Observation) (v : Value) (w : Value) → value_tree (values.Cond o v w) ≡ cond_value (observation_tree o) (value_tree v) (value_tree w)
value_tree-Cond o v w = ap value_tree (sym (rolls-Cond o v w)) ∙ at_value (Value-F.Cond o v w)

pub observation_tree-AndObs : (o : Observation) (q : Observation) → observation_tree (observations.AndObs o q) ≡ and_obs (observation_tree o) (observation_tree q)
observation_tree-AndObs o q = ap observation_tree (sym (rolls-AndObs o q)) ∙ at_observation (Observation-F.AndObs o q)

pub observation_tree-OrObs : (o : Observation) (q : Observation) → observation_tree (observations.OrObs o q) ≡ or_obs (observation_tree o) (observation_tree q)
observation_tree-OrObs o q = ap observation_tree (sym (rolls-OrObs o q)) ∙ at_observation (Observation-F.OrObs o q)

pub observation_tree-NotObs : (o : Observation) → observation_tree (observations.NotObs o) ≡ not_obs (observation_tree o)
observation_tree-NotObs o = ap observation_tree (sym (rolls-NotObs o)) ∙ at_observation (Observation-F.NotObs o)

pub observation_tree-ChoseSomething : (id : ChoiceId) → observation_tree (observations.ChoseSomething id) ≡ chose_something id
observation_tree-ChoseSomething id = ap observation_tree (sym (rolls-ChoseSomething id)) ∙ at_observation (Observation-F.ChoseSomething id)

pub observation_tree-ValueGE : (v : Value) (w : Value) → observation_tree (observations.ValueGE v w) ≡ value_ge (value_tree v) (value_tree w)
observation_tree-ValueGE v w = ap observation_tree (sym (rolls-ValueGE v w)) ∙ at_observation (Observation-F.ValueGE v w)

pub observation_tree-ValueGT : (v : Value) (w : Value) → observation_tree (observations.ValueGT v w) ≡ value_gt (value_tree v) (value_tree w)
observation_tree-ValueGT v w = ap observation_tree (sym (rolls-ValueGT v w)) ∙ at_observation (Observation-F.ValueGT v w)

pub observation_tree-ValueLT : (v : Value) (w : Value) → observation_tree (observations.ValueLT v w) ≡ value_lt (value_tree v) (value_tree w)
observation_tree-ValueLT v w = ap observation_tree (sym (rolls-ValueLT v w)) ∙ at_observation (Observation-F.ValueLT v w)

pub observation_tree-ValueLE : (v : Value) (w : Value) → observation_tree (observations.ValueLE v w) ≡ value_le (value_tree v) (value_tree w)
observation_tree-ValueLE v w = ap observation_tree (sym (rolls-ValueLE v w)) ∙ at_observation (Observation-F.ValueLE v w)

pub observation_tree-ValueEQ : (v : Value) (w : Value) → observation_tree (observations.ValueEQ v w) ≡ value_eq (value_tree v) (value_tree w)
observation_tree-ValueEQ v w = ap observation_tree (sym (rolls-ValueEQ v w)) ∙ at_observation (Observation-F.ValueEQ v w)

pub observation_tree-TrueObs : observation_tree observations.TrueObs ≡ true_obs
observation_tree-TrueObs = ap observation_tree (sym rolls-TrueObs) ∙ at_observation Observation-F.TrueObs

pub observation_tree-FalseObs : observation_tree observations.FalseObs ≡ false_obs
observation_tree-FalseObs = ap observation_tree (sym rolls-FalseObs) ∙ at_observation Observation-F.FalseObs

-- ---- there and back: values and observations

mutual
  pub value_tree-value_of : (t : ValueTree) → value_tree (value_of t) ≡ t
  value_tree-value_of (available_money p t) = value_tree-AvailableMoney p t
  value_tree-value_of (constant n) = value_tree-Constant n
  value_tree-value_of (neg_value v) = value_tree-NegValue (value_of v) ∙ (λ i. neg_value (value_tree-value_of v i))
  value_tree-value_of (add_value v w) = value_tree-AddValue (value_of v) (value_of w) ∙ (λ i. add_value (value_tree-value_of v i) (value_tree-value_of w i))
  value_tree-value_of (sub_value v w) = value_tree-SubValue (value_of v) (value_of w) ∙ (λ i. sub_value (value_tree-value_of v i) (value_tree-value_of w i))
  value_tree-value_of (mul_value v w) = value_tree-MulValue (value_of v) (value_of w) ∙ (λ i. mul_value (value_tree-value_of v i) (value_tree-value_of w i))
  value_tree-value_of (div_value v w) = value_tree-DivValue (value_of v) (value_of w) ∙ (λ i. div_value (value_tree-value_of v i) (value_tree-value_of w i))
  value_tree-value_of (choice_value id) = value_tree-ChoiceValue id
  value_tree-value_of time_interval_start = value_tree-TimeIntervalStart
  value_tree-value_of time_interval_end = value_tree-TimeIntervalEnd
  value_tree-value_of (use_value x) = value_tree-UseValue x
  value_tree-value_of (cond_value o v w) = value_tree-Cond (observation_of o) (value_of v) (value_of w) ∙ (λ i. cond_value (observation_tree-observation_of o i) (value_tree-value_of v i) (value_tree-value_of w i))

  pub observation_tree-observation_of : (t : ObservationTree) → observation_tree (observation_of t) ≡ t
  observation_tree-observation_of (and_obs o q) = observation_tree-AndObs (observation_of o) (observation_of q) ∙ (λ i. and_obs (observation_tree-observation_of o i) (observation_tree-observation_of q i))
  observation_tree-observation_of (or_obs o q) = observation_tree-OrObs (observation_of o) (observation_of q) ∙ (λ i. or_obs (observation_tree-observation_of o i) (observation_tree-observation_of q i))
  observation_tree-observation_of (not_obs o) = observation_tree-NotObs (observation_of o) ∙ (λ i. not_obs (observation_tree-observation_of o i))
  observation_tree-observation_of (chose_something id) = observation_tree-ChoseSomething id
  observation_tree-observation_of (value_ge v w) = observation_tree-ValueGE (value_of v) (value_of w) ∙ (λ i. value_ge (value_tree-value_of v i) (value_tree-value_of w i))
  observation_tree-observation_of (value_gt v w) = observation_tree-ValueGT (value_of v) (value_of w) ∙ (λ i. value_gt (value_tree-value_of v i) (value_tree-value_of w i))
  observation_tree-observation_of (value_lt v w) = observation_tree-ValueLT (value_of v) (value_of w) ∙ (λ i. value_lt (value_tree-value_of v i) (value_tree-value_of w i))
  observation_tree-observation_of (value_le v w) = observation_tree-ValueLE (value_of v) (value_of w) ∙ (λ i. value_le (value_tree-value_of v i) (value_tree-value_of w i))
  observation_tree-observation_of (value_eq v w) = observation_tree-ValueEQ (value_of v) (value_of w) ∙ (λ i. value_eq (value_tree-value_of v i) (value_tree-value_of w i))
  observation_tree-observation_of true_obs = observation_tree-TrueObs
  observation_tree-observation_of false_obs = observation_tree-FalseObs

abbrev ValueReturns : Value → Type 0
ValueReturns v = value_of (value_tree v) ≡ v

abbrev ObservationReturns : Observation → Type 0
ObservationReturns o = observation_of (observation_tree o) ≡ o

value_level_returns : (y : Value-F ((o : Observation) × ObservationReturns o) ((v : Value) × ValueReturns v)) → ValueReturns (roll-Value (map-Value _ _ _ _ (λ e. e.0) (λ e. e.0) y))
value_level_returns (Value-F.AvailableMoney p t) = ap value_of (at_value (Value-F.AvailableMoney p t)) ∙ sym (rolls-AvailableMoney p t)
value_level_returns (Value-F.Constant n) = ap value_of (at_value (Value-F.Constant n)) ∙ sym (rolls-Constant n)
value_level_returns (Value-F.NegValue v) = ap value_of (at_value (Value-F.NegValue v.0)) ∙ (λ i. values.NegValue (v.1 i)) ∙ sym (rolls-NegValue v.0)
value_level_returns (Value-F.AddValue v w) = ap value_of (at_value (Value-F.AddValue v.0 w.0)) ∙ (λ i. values.AddValue (v.1 i) (w.1 i)) ∙ sym (rolls-AddValue v.0 w.0)
value_level_returns (Value-F.SubValue v w) = ap value_of (at_value (Value-F.SubValue v.0 w.0)) ∙ (λ i. values.SubValue (v.1 i) (w.1 i)) ∙ sym (rolls-SubValue v.0 w.0)
value_level_returns (Value-F.MulValue v w) = ap value_of (at_value (Value-F.MulValue v.0 w.0)) ∙ (λ i. values.MulValue (v.1 i) (w.1 i)) ∙ sym (rolls-MulValue v.0 w.0)
value_level_returns (Value-F.DivValue v w) = ap value_of (at_value (Value-F.DivValue v.0 w.0)) ∙ (λ i. values.DivValue (v.1 i) (w.1 i)) ∙ sym (rolls-DivValue v.0 w.0)
value_level_returns (Value-F.ChoiceValue id) = ap value_of (at_value (Value-F.ChoiceValue id)) ∙ sym (rolls-ChoiceValue id)
value_level_returns Value-F.TimeIntervalStart = ap value_of (at_value Value-F.TimeIntervalStart) ∙ sym rolls-TimeIntervalStart
value_level_returns Value-F.TimeIntervalEnd = ap value_of (at_value Value-F.TimeIntervalEnd) ∙ sym rolls-TimeIntervalEnd
value_level_returns (Value-F.UseValue x) = ap value_of (at_value (Value-F.UseValue x)) ∙ sym (rolls-UseValue x)
value_level_returns (Value-F.Cond o v w) = ap value_of (at_value (Value-F.Cond o.0 v.0 w.0)) ∙ (λ i. values.Cond (o.1 i) (v.1 i) (w.1 i)) ∙ sym (rolls-Cond o.0 v.0 w.0)

observation_level_returns : (y : Observation-F ((o : Observation) × ObservationReturns o) ((v : Value) × ValueReturns v)) → ObservationReturns (roll-Observation (map-Observation _ _ _ _ (λ e. e.0) (λ e. e.0) y))
observation_level_returns (Observation-F.AndObs o q) = ap observation_of (at_observation (Observation-F.AndObs o.0 q.0)) ∙ (λ i. observations.AndObs (o.1 i) (q.1 i)) ∙ sym (rolls-AndObs o.0 q.0)
observation_level_returns (Observation-F.OrObs o q) = ap observation_of (at_observation (Observation-F.OrObs o.0 q.0)) ∙ (λ i. observations.OrObs (o.1 i) (q.1 i)) ∙ sym (rolls-OrObs o.0 q.0)
observation_level_returns (Observation-F.NotObs o) = ap observation_of (at_observation (Observation-F.NotObs o.0)) ∙ (λ i. observations.NotObs (o.1 i)) ∙ sym (rolls-NotObs o.0)
observation_level_returns (Observation-F.ChoseSomething id) = ap observation_of (at_observation (Observation-F.ChoseSomething id)) ∙ sym (rolls-ChoseSomething id)
observation_level_returns (Observation-F.ValueGE v w) = ap observation_of (at_observation (Observation-F.ValueGE v.0 w.0)) ∙ (λ i. observations.ValueGE (v.1 i) (w.1 i)) ∙ sym (rolls-ValueGE v.0 w.0)
observation_level_returns (Observation-F.ValueGT v w) = ap observation_of (at_observation (Observation-F.ValueGT v.0 w.0)) ∙ (λ i. observations.ValueGT (v.1 i) (w.1 i)) ∙ sym (rolls-ValueGT v.0 w.0)
observation_level_returns (Observation-F.ValueLT v w) = ap observation_of (at_observation (Observation-F.ValueLT v.0 w.0)) ∙ (λ i. observations.ValueLT (v.1 i) (w.1 i)) ∙ sym (rolls-ValueLT v.0 w.0)
observation_level_returns (Observation-F.ValueLE v w) = ap observation_of (at_observation (Observation-F.ValueLE v.0 w.0)) ∙ (λ i. observations.ValueLE (v.1 i) (w.1 i)) ∙ sym (rolls-ValueLE v.0 w.0)
observation_level_returns (Observation-F.ValueEQ v w) = ap observation_of (at_observation (Observation-F.ValueEQ v.0 w.0)) ∙ (λ i. observations.ValueEQ (v.1 i) (w.1 i)) ∙ sym (rolls-ValueEQ v.0 w.0)
observation_level_returns Observation-F.TrueObs = ap observation_of (at_observation Observation-F.TrueObs) ∙ sym rolls-TrueObs
observation_level_returns Observation-F.FalseObs = ap observation_of (at_observation Observation-F.FalseObs) ∙ sym rolls-FalseObs

pub value_of-value_tree : (v : Value) → value_of (value_tree v) ≡ v
value_of-value_tree = ind-Value ObservationReturns ValueReturns (λ x y is. subst (λ z. ObservationReturns (roll-Observation z)) is (observation_level_returns y)) (λ x y is. subst (λ z. ValueReturns (roll-Value z)) is (value_level_returns y))

pub observation_of-observation_tree : (o : Observation) → observation_of (observation_tree o) ≡ o
observation_of-observation_tree = ind-Observation ObservationReturns ValueReturns (λ x y is. subst (λ z. ObservationReturns (roll-Observation z)) is (observation_level_returns y)) (λ x y is. subst (λ z. ValueReturns (roll-Value z)) is (value_level_returns y))

-- ---- there and back: actions

pub action_tree-action_of : (t : ActionTree) → action_tree (action_of t) ≡ t
action_tree-action_of (deposit a p t v) = ap (deposit a p t) (value_tree-value_of v)
action_tree-action_of (choice id bounds) = refl
action_tree-action_of (notify o) = ap notify (observation_tree-observation_of o)

pub action_of-action_tree : (a : Action) → action_of (action_tree a) ≡ a
action_of-action_tree (actions.Deposit a p t v) = ap (actions.Deposit a p t) (value_of-value_tree v)
action_of-action_tree (actions.Choice id bounds) = refl
action_of-action_tree (actions.Notify o) = ap actions.Notify (observation_of-observation_tree o)

-- ---- the tree of each form of contract

-- the tree of a contract of one level
at_level : (x : Contract-F Contract Case) → contract_tree (roll-Contract x) ≡ contract_level (map-Contract Contract Case ContractTree (ActionTree × ContractTree) contract_tree case_tree x)
at_level = fold-roll-Contract ContractTree (ActionTree × ContractTree) contract_level case_level

pub contract_tree-Close : contract_tree made.Close ≡ close
contract_tree-Close = ap contract_tree (sym rolls-Close) ∙ at_level Contract-F.Close

pub contract_tree-Pay : (p : Party) (y : Payee) (t : Token) (v : Value) (c : Contract) → contract_tree (made.Pay p y t v c) ≡ pay p y t (value_tree v) (contract_tree c)
contract_tree-Pay p y t v c = ap contract_tree (sym (rolls-Pay p y t v c)) ∙ at_level (Contract-F.Pay p y t v c)

pub contract_tree-If : (o : Observation) (c : Contract) (d : Contract) → contract_tree (made.If o c d) ≡ if_obs (observation_tree o) (contract_tree c) (contract_tree d)
contract_tree-If o c d = ap contract_tree (sym (rolls-If o c d)) ∙ at_level (Contract-F.If o c d)

pub contract_tree-When : (ks : List Case) (n : ℤ) (c : Contract) → contract_tree (made.When ks n c) ≡ when (case_trees (map case_tree ks)) n (contract_tree c)
contract_tree-When ks n c = ap contract_tree (sym (rolls-When ks n c)) ∙ at_level (Contract-F.When ks n c)

pub contract_tree-Let : (x : List ℕ) (v : Value) (c : Contract) → contract_tree (made.Let x v c) ≡ let_be x (value_tree v) (contract_tree c)
contract_tree-Let x v c = ap contract_tree (sym (rolls-Let x v c)) ∙ at_level (Contract-F.Let x v c)

pub contract_tree-Assert : (o : Observation) (c : Contract) → contract_tree (made.Assert o c) ≡ assert (observation_tree o) (contract_tree c)
contract_tree-Assert o c = ap contract_tree (sym (rolls-Assert o c)) ∙ at_level (Contract-F.Assert o c)

pub case_tree-parts : (k : Case) → ◌≡◌ {A = ActionTree × ContractTree} (case_tree k) (action_tree k.action, contract_tree k.then)
case_tree-parts k = fold_out-Case ContractTree (ActionTree × ContractTree) contract_level case_level k

-- ---- there and back: contracts

mutual
  pub contract_tree-contract_of : (t : ContractTree) → contract_tree (contract_of t) ≡ t
  contract_tree-contract_of close = contract_tree-Close
  contract_tree-contract_of (pay p y t v c) = contract_tree-Pay p y t (value_of v) (contract_of c) ∙ (λ i. pay p y t (value_tree-value_of v i) (contract_tree-contract_of c i))
  contract_tree-contract_of (if_obs o c d) = contract_tree-If (observation_of o) (contract_of c) (contract_of d) ∙ (λ i. if_obs (observation_tree-observation_of o i) (contract_tree-contract_of c i) (contract_tree-contract_of d i))
  contract_tree-contract_of (when ks n c) = contract_tree-When (cases_of ks) n (contract_of c) ∙ (λ i. when (case_trees-cases_of ks i) n (contract_tree-contract_of c i))
  contract_tree-contract_of (let_be x v c) = contract_tree-Let x (value_of v) (contract_of c) ∙ (λ i. let_be x (value_tree-value_of v i) (contract_tree-contract_of c i))
  contract_tree-contract_of (assert o c) = contract_tree-Assert (observation_of o) (contract_of c) ∙ (λ i. assert (observation_tree-observation_of o i) (contract_tree-contract_of c i))

  pub case_trees-cases_of : (ks : CaseTrees) → case_trees (map case_tree (cases_of ks)) ≡ ks
  case_trees-cases_of no_cases = refl
  case_trees-cases_of (case_then a c ks) =
      let k : Case = record { action = action_of a; then = contract_of c } in
      (λ i. case_then (case_tree-parts k i).0 (case_tree-parts k i).1 (case_trees-cases_of ks i))
      ∙ (λ i. case_then (action_tree-action_of a i) (contract_tree-contract_of c i) ks)

abbrev Returns : Contract → Type 0
Returns c = contract_of (contract_tree c) ≡ c

abbrev CaseReturns : Case → Type 0
CaseReturns k = Returns k.then

cases_return : (ks : List ((k : Case) × CaseReturns k)) → cases_of (case_trees (map case_tree (map (λ e. e.0) ks))) ≡ map (λ e. e.0) ks
cases_return [] = refl
cases_return (k ∷ ks) =
    (λ i. record { action = action_of (case_tree-parts k.0 i).0; then = contract_of (case_tree-parts k.0 i).1 } ∷ cases_return ks i)
    ∙ (λ i. record { action = action_of-action_tree k.0.action i; then = k.1 i } ∷ map (λ e. e.0) ks)

level_returns : (y : Contract-F ((c : Contract) × Returns c) ((k : Case) × CaseReturns k)) → Returns (roll-Contract (map-Contract _ _ _ _ (λ e. e.0) (λ e. e.0) y))
level_returns Contract-F.Close = ap contract_of (at_level Contract-F.Close) ∙ sym rolls-Close
level_returns (Contract-F.Pay p y t v c) = ap contract_of (at_level (Contract-F.Pay p y t v c.0)) ∙ (λ i. made.Pay p y t (value_of-value_tree v i) (c.1 i)) ∙ sym (rolls-Pay p y t v c.0)
level_returns (Contract-F.If o c d) = ap contract_of (at_level (Contract-F.If o c.0 d.0)) ∙ (λ i. made.If (observation_of-observation_tree o i) (c.1 i) (d.1 i)) ∙ sym (rolls-If o c.0 d.0)
level_returns (Contract-F.When ks n c) = ap contract_of (at_level (Contract-F.When (map (λ e. e.0) ks) n c.0)) ∙ (λ i. made.When (cases_return ks i) n (c.1 i)) ∙ sym (rolls-When (map (λ e. e.0) ks) n c.0)
level_returns (Contract-F.Let x v c) = ap contract_of (at_level (Contract-F.Let x v c.0)) ∙ (λ i. made.Let x (value_of-value_tree v i) (c.1 i)) ∙ sym (rolls-Let x v c.0)
level_returns (Contract-F.Assert o c) = ap contract_of (at_level (Contract-F.Assert o c.0)) ∙ (λ i. made.Assert (observation_of-observation_tree o i) (c.1 i)) ∙ sym (rolls-Assert o c.0)

pub contract_of-contract_tree : (c : Contract) → contract_of (contract_tree c) ≡ c
contract_of-contract_tree = ind-Contract Returns CaseReturns (λ x y is. subst (λ z. Returns (roll-Contract z)) is (level_returns y)) (λ x y is. subst (λ z. CaseReturns (roll-Case z)) is y.then.1)

-- contracts with one tree are one contract, and so are values and observations
pub same_contract_by_tree : (c d : Contract) → contract_tree c ≡ contract_tree d → c ≡ d
same_contract_by_tree c d e = sym (contract_of-contract_tree c) ∙ ap contract_of e ∙ contract_of-contract_tree d

pub same_value_by_tree : (v w : Value) → value_tree v ≡ value_tree w → v ≡ w
same_value_by_tree v w e = sym (value_of-value_tree v) ∙ ap value_of e ∙ value_of-value_tree w

pub same_observation_by_tree : (o q : Observation) → observation_tree o ≡ observation_tree q → o ≡ q
same_observation_by_tree o q e = sym (observation_of-observation_tree o) ∙ ap observation_of e ∙ observation_of-observation_tree q
