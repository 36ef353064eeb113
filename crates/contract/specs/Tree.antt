-- Contracts as trees, over which all definitions go by cases (Marlowe specification version 3, "Values and
-- observations", "Actions and inputs", "Contracts"). Each form has the name of the specification. A contract
-- and its tree determine each other (the law `contracts_are_trees`).
use Rattle.std.specs.Prelude.{ℕ, ℤ, List, [], ◌∷◌}
use Rattle.states.specs.Names.declared.party.Party.{Party}
use Rattle.states.specs.Names.declared.payee.Payee.{Payee}
use Rattle.states.specs.Names.declared.token.Token.{Token}
use Rattle.states.specs.Names.declared.choice_id.ChoiceId.{ChoiceId}
use Rattle.states.specs.Names.declared.bound.Bound.{Bound}
use Rattle.contract.specs.declared.value.Value.{Value}
use Rattle.contract.specs.declared.value.Observation.{Observation}
use Rattle.contract.specs.declared.value.Observation.TheOpen.{Value-F, Observation-F}
use Rattle.contract.specs.declared.value.Observation.TheFolds.{fold-Value, fold-Observation}
use Rattle.contract.specs.declared.tree.Action.{Action}
use Rattle.contract.specs.declared.tree.Action.TheVariants as actions
use Rattle.contract.specs.declared.tree.Case.{Case}
use Rattle.contract.specs.declared.tree.Contract.{Contract}
use Rattle.contract.specs.declared.tree.Contract.TheFolds.{fold-Contract, fold-Case}
use Rattle.contract.specs.declared.tree.Contract.TheOpen.{Contract-F, Case-F}

-- values and observations
mutual
  pub data ValueTree : Type 0 where
    available_money : Party → Token → ValueTree
    constant : ℤ → ValueTree
    neg_value : ValueTree → ValueTree
    add_value : ValueTree → ValueTree → ValueTree
    sub_value : ValueTree → ValueTree → ValueTree
    mul_value : ValueTree → ValueTree → ValueTree
    div_value : ValueTree → ValueTree → ValueTree
    choice_value : ChoiceId → ValueTree
    time_interval_start : ValueTree
    time_interval_end : ValueTree
    use_value : List ℕ → ValueTree
    cond_value : ObservationTree → ValueTree → ValueTree → ValueTree

  pub data ObservationTree : Type 0 where
    and_obs : ObservationTree → ObservationTree → ObservationTree
    or_obs : ObservationTree → ObservationTree → ObservationTree
    not_obs : ObservationTree → ObservationTree
    chose_something : ChoiceId → ObservationTree
    value_ge : ValueTree → ValueTree → ObservationTree
    value_gt : ValueTree → ValueTree → ObservationTree
    value_lt : ValueTree → ValueTree → ObservationTree
    value_le : ValueTree → ValueTree → ObservationTree
    value_eq : ValueTree → ValueTree → ObservationTree
    true_obs : ObservationTree
    false_obs : ObservationTree

-- actions: a deposit's account, party, token and value
pub data ActionTree : Type 0 where
  deposit : Party → Party → Token → ValueTree → ActionTree
  choice : ChoiceId → List Bound → ActionTree
  notify : ObservationTree → ActionTree

-- contracts, and the cases of a When in order
mutual
  pub data ContractTree : Type 0 where
    close : ContractTree
    pay : Party → Payee → Token → ValueTree → ContractTree → ContractTree
    if_obs : ObservationTree → ContractTree → ContractTree → ContractTree
    when : CaseTrees → ℤ → ContractTree → ContractTree
    let_be : List ℕ → ValueTree → ContractTree → ContractTree
    assert : ObservationTree → ContractTree → ContractTree

  pub data CaseTrees : Type 0 where
    no_cases : CaseTrees
    case_then : ActionTree → ContractTree → CaseTrees → CaseTrees

-- ---- the tree of a contract

-- one level of a value or an observation, over the trees of its parts
abbrev pub value_level : Value-F ObservationTree ValueTree → ValueTree
value_level (Value-F.AvailableMoney p t) = available_money p t
value_level (Value-F.Constant n) = constant n
value_level (Value-F.NegValue v) = neg_value v
value_level (Value-F.AddValue v w) = add_value v w
value_level (Value-F.SubValue v w) = sub_value v w
value_level (Value-F.MulValue v w) = mul_value v w
value_level (Value-F.DivValue v w) = div_value v w
value_level (Value-F.ChoiceValue id) = choice_value id
value_level Value-F.TimeIntervalStart = time_interval_start
value_level Value-F.TimeIntervalEnd = time_interval_end
value_level (Value-F.UseValue x) = use_value x
value_level (Value-F.Cond o v w) = cond_value o v w

abbrev pub observation_level : Observation-F ObservationTree ValueTree → ObservationTree
observation_level (Observation-F.AndObs o p) = and_obs o p
observation_level (Observation-F.OrObs o p) = or_obs o p
observation_level (Observation-F.NotObs o) = not_obs o
observation_level (Observation-F.ChoseSomething id) = chose_something id
observation_level (Observation-F.ValueGE v w) = value_ge v w
observation_level (Observation-F.ValueGT v w) = value_gt v w
observation_level (Observation-F.ValueLT v w) = value_lt v w
observation_level (Observation-F.ValueLE v w) = value_le v w
observation_level (Observation-F.ValueEQ v w) = value_eq v w
observation_level Observation-F.TrueObs = true_obs
observation_level Observation-F.FalseObs = false_obs

abbrev pub value_tree : Value → ValueTree
value_tree = fold-Value ObservationTree ValueTree observation_level value_level

abbrev pub observation_tree : Observation → ObservationTree
observation_tree = fold-Observation ObservationTree ValueTree observation_level value_level

abbrev pub action_tree : Action → ActionTree
action_tree (actions.Deposit a p t v) = deposit a p t (value_tree v)
action_tree (actions.Choice id bounds) = choice id bounds
action_tree (actions.Notify o) = notify (observation_tree o)

abbrev pub case_trees : List (ActionTree × ContractTree) → CaseTrees
case_trees [] = no_cases
case_trees (k ∷ ks) = case_then k.0 k.1 (case_trees ks)

-- one level of a contract, over the trees of its parts
abbrev pub contract_level : Contract-F ContractTree (ActionTree × ContractTree) → ContractTree
contract_level Contract-F.Close = close
contract_level (Contract-F.Pay a p t v c) = pay a p t (value_tree v) c
contract_level (Contract-F.If o c d) = if_obs (observation_tree o) c d
contract_level (Contract-F.When ks t c) = when (case_trees ks) t c
contract_level (Contract-F.Let x v c) = let_be x (value_tree v) c
contract_level (Contract-F.Assert o c) = assert (observation_tree o) c

abbrev pub case_level : Case-F ContractTree (ActionTree × ContractTree) → ActionTree × ContractTree
case_level k = (action_tree k.action, k.then)

abbrev pub contract_tree : Contract → ContractTree
contract_tree = fold-Contract ContractTree (ActionTree × ContractTree) contract_level case_level

abbrev pub case_tree : Case → ActionTree × ContractTree
case_tree = fold-Case ContractTree (ActionTree × ContractTree) contract_level case_level
