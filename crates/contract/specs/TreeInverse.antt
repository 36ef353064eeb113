-- The contract of a tree. No reader needs this file but for the law `contracts_are_trees`, which names these.
use Rattle.std.specs.Prelude.{List, [], ◌∷◌}
use Rattle.contract.specs.declared.value.Value.{Value}
use Rattle.contract.specs.declared.value.Value as values
use Rattle.contract.specs.declared.value.Observation.{Observation}
use Rattle.contract.specs.declared.value.Observation as observations
use Rattle.contract.specs.declared.tree.Action.{Action}
use Rattle.contract.specs.declared.tree.Action.TheVariants as actions
use Rattle.contract.specs.declared.tree.Case.{Case}
use Rattle.contract.specs.declared.tree.Contract.{Contract}
use Rattle.contract.specs.declared.tree.Contract as contracts
use Rattle.contract.specs.Tree.{ValueTree, available_money, constant, neg_value, add_value, sub_value, mul_value, div_value, choice_value, time_interval_start, time_interval_end, use_value, cond_value}
use Rattle.contract.specs.Tree.{ObservationTree, and_obs, or_obs, not_obs, chose_something, value_ge, value_gt, value_lt, value_le, value_eq, true_obs, false_obs}
use Rattle.contract.specs.Tree.{ActionTree, deposit, choice, notify, ContractTree, CaseTrees, close, pay, if_obs, when, let_be, assert, no_cases, case_then}

abbrev mutual
  pub value_of : ValueTree → Value
  value_of (available_money p t) = values.AvailableMoney p t
  value_of (constant n) = values.Constant n
  value_of (neg_value v) = values.NegValue (value_of v)
  value_of (add_value v w) = values.AddValue (value_of v) (value_of w)
  value_of (sub_value v w) = values.SubValue (value_of v) (value_of w)
  value_of (mul_value v w) = values.MulValue (value_of v) (value_of w)
  value_of (div_value v w) = values.DivValue (value_of v) (value_of w)
  value_of (choice_value id) = values.ChoiceValue id
  value_of time_interval_start = values.TimeIntervalStart
  value_of time_interval_end = values.TimeIntervalEnd
  value_of (use_value x) = values.UseValue x
  value_of (cond_value o v w) = values.Cond (observation_of o) (value_of v) (value_of w)

  pub observation_of : ObservationTree → Observation
  observation_of (and_obs o p) = observations.AndObs (observation_of o) (observation_of p)
  observation_of (or_obs o p) = observations.OrObs (observation_of o) (observation_of p)
  observation_of (not_obs o) = observations.NotObs (observation_of o)
  observation_of (chose_something id) = observations.ChoseSomething id
  observation_of (value_ge v w) = observations.ValueGE (value_of v) (value_of w)
  observation_of (value_gt v w) = observations.ValueGT (value_of v) (value_of w)
  observation_of (value_lt v w) = observations.ValueLT (value_of v) (value_of w)
  observation_of (value_le v w) = observations.ValueLE (value_of v) (value_of w)
  observation_of (value_eq v w) = observations.ValueEQ (value_of v) (value_of w)
  observation_of true_obs = observations.TrueObs
  observation_of false_obs = observations.FalseObs

abbrev pub action_of : ActionTree → Action
action_of (deposit a p t v) = actions.Deposit a p t (value_of v)
action_of (choice id bounds) = actions.Choice id bounds
action_of (notify o) = actions.Notify (observation_of o)

abbrev mutual
  pub contract_of : ContractTree → Contract
  contract_of close = contracts.Close
  contract_of (pay a p t v c) = contracts.Pay a p t (value_of v) (contract_of c)
  contract_of (if_obs o c d) = contracts.If (observation_of o) (contract_of c) (contract_of d)
  contract_of (when ks t c) = contracts.When (cases_of ks) t (contract_of c)
  contract_of (let_be x v c) = contracts.Let x (value_of v) (contract_of c)
  contract_of (assert o c) = contracts.Assert (observation_of o) (contract_of c)

  pub cases_of : CaseTrees → List Case
  cases_of no_cases = []
  cases_of (case_then a c ks) = record { action = action_of a; then = contract_of c } ∷ cases_of ks
