-- The table of a contract. Each form puts what it names first, from the left, and then its own node: an equal one that
-- stands serves, else it goes to the end of its list. So children stand before their parent, and each of the four lists
-- counts from 0.
use Rattle.std.specs.Prelude.{ℕ, List, [], ◌∷◌}
use Rattle.contract.specs.Tree.{ValueTree, available_money, constant, neg_value, add_value, sub_value, mul_value, div_value, choice_value, time_interval_start, time_interval_end, use_value, cond_value}
use Rattle.contract.specs.Tree.{ObservationTree, and_obs, or_obs, not_obs, chose_something, value_ge, value_gt, value_lt, value_le, value_eq, true_obs, false_obs}
use Rattle.contract.specs.Tree.{ActionTree, deposit, choice, notify, ContractTree, close, pay, if_obs, when, let_be, assert, CaseTrees, no_cases, case_then}
use Rattle.table.specs.Nodes.declared.cont.Cont.{Cont}
use Rattle.table.specs.Nodes.declared.value_node.ValueNode.TheVariants as values
use Rattle.table.specs.Nodes.declared.observation_node.ObservationNode.TheVariants as observations
use Rattle.table.specs.Nodes.declared.case_node.CaseNode.{CaseNode}
use Rattle.table.specs.Nodes.declared.case_node.CaseNode.TheVariants as cases
use Rattle.table.specs.Nodes.declared.cont_node.ContNode.TheVariants as conts
use Rattle.table.specs.Flat.{Flat, nothing}
use Rattle.table_builder.specs.Putting.{put_value, put_observation, put_case, put_cont}

-- ---- the table with a tree's nodes, and the number of the tree

unfoldable mutual
  -- the operands from the left, then the value; of a Cond the observation, then the two values
  pub code_value : ValueTree → Flat → Flat × ℕ
  code_value (available_money p t) f = put_value f (values.AvailableMoney p t)
  code_value (constant n) f = put_value f (values.Constant n)
  code_value (neg_value v) f = let a = code_value v f in put_value a.0 (values.NegValue a.1)
  code_value (add_value v w) f = let a = code_value v f in let b = code_value w a.0 in put_value b.0 (values.AddValue a.1 b.1)
  code_value (sub_value v w) f = let a = code_value v f in let b = code_value w a.0 in put_value b.0 (values.SubValue a.1 b.1)
  code_value (mul_value v w) f = let a = code_value v f in let b = code_value w a.0 in put_value b.0 (values.MulValue a.1 b.1)
  code_value (div_value v w) f = let a = code_value v f in let b = code_value w a.0 in put_value b.0 (values.DivValue a.1 b.1)
  code_value (choice_value id) f = put_value f (values.ChoiceValue id)
  code_value time_interval_start f = put_value f values.TimeIntervalStart
  code_value time_interval_end f = put_value f values.TimeIntervalEnd
  code_value (use_value x) f = put_value f (values.UseValue x)
  code_value (cond_value o v w) f = let c = code_observation o f in let a = code_value v c.0 in let b = code_value w a.0 in put_value b.0 (values.Cond c.1 a.1 b.1)

  -- the operands from the left, then the observation
  pub code_observation : ObservationTree → Flat → Flat × ℕ
  code_observation (and_obs o q) f = let a = code_observation o f in let b = code_observation q a.0 in put_observation b.0 (observations.AndObs a.1 b.1)
  code_observation (or_obs o q) f = let a = code_observation o f in let b = code_observation q a.0 in put_observation b.0 (observations.OrObs a.1 b.1)
  code_observation (not_obs o) f = let a = code_observation o f in put_observation a.0 (observations.NotObs a.1)
  code_observation (chose_something id) f = put_observation f (observations.ChoseSomething id)
  code_observation (value_ge v w) f = let a = code_value v f in let b = code_value w a.0 in put_observation b.0 (observations.ValueGE a.1 b.1)
  code_observation (value_gt v w) f = let a = code_value v f in let b = code_value w a.0 in put_observation b.0 (observations.ValueGT a.1 b.1)
  code_observation (value_lt v w) f = let a = code_value v f in let b = code_value w a.0 in put_observation b.0 (observations.ValueLT a.1 b.1)
  code_observation (value_le v w) f = let a = code_value v f in let b = code_value w a.0 in put_observation b.0 (observations.ValueLE a.1 b.1)
  code_observation (value_eq v w) f = let a = code_value v f in let b = code_value w a.0 in put_observation b.0 (observations.ValueEQ a.1 b.1)
  code_observation true_obs f = put_observation f observations.TrueObs
  code_observation false_obs f = put_observation f observations.FalseObs

-- what an action waits for: of a deposit its value, of a notification its observation; a choice has neither
unfoldable pub code_action : ActionTree → Flat → Flat × ℕ
code_action (deposit a p t v) f = code_value v f
code_action (choice id bounds) f = (f, 0)
code_action (notify o) f = code_observation o f

-- the node of a case, over the number of what its action waits for and that of what follows
abbrev pub case_node : ActionTree → ℕ → Cont → CaseNode
case_node (deposit a p t v) n k = cases.Deposit a p t n k
case_node (choice id bounds) n k = cases.Choice id bounds k
case_node (notify o) n k = cases.Notify n k

-- a case: what its action waits for, what follows (put by `then`), then the case
abbrev pub code_case : ActionTree → (Flat → Flat × Cont) → Flat → Flat × ℕ
code_case a then f = let n = code_action a f in let k = then n.0 in put_case k.0 (case_node a n.1 k.1)

unfoldable mutual
  -- of a Pay and a Let the value, of an If and an Assert the observation, of a When its cases; then the
  -- continuations from the left, of a When the one after its timeout; then the contract
  pub code_contract : ContractTree → Flat → Flat × Cont
  code_contract close f = put_cont f conts.Close
  code_contract (pay a p t v c) f = let n = code_value v f in let k = code_contract c n.0 in put_cont k.0 (conts.Pay a p t n.1 k.1)
  code_contract (if_obs o c d) f = let n = code_observation o f in let j = code_contract c n.0 in let k = code_contract d j.0 in put_cont k.0 (conts.If n.1 j.1 k.1)
  code_contract (when ks t c) f = let ns = code_cases ks f in let k = code_contract c ns.0 in put_cont k.0 (conts.When ns.1 t k.1)
  code_contract (let_be x v c) f = let n = code_value v f in let k = code_contract c n.0 in put_cont k.0 (conts.Let x n.1 k.1)
  code_contract (assert o c) f = let n = code_observation o f in let k = code_contract c n.0 in put_cont k.0 (conts.Assert n.1 k.1)

  -- each case in turn; the numbers of all
  pub code_cases : CaseTrees → Flat → Flat × List ℕ
  code_cases no_cases f = (f, [])
  code_cases (case_then a c ks) f = let e = code_case a (code_contract c) f in let ns = code_cases ks e.0 in (ns.0, e.1 ∷ ns.1)

-- the table of a contract, and the number of its root, which stands last
unfoldable pub code : ContractTree → Flat × Cont
code c = code_contract c nothing
