-- What the numbers of a table stand for.
use Rattle.std.specs.Prelude.{◌≡◌, Bool, true, false, ℕ, suc, zero, ◌<◌, ◌≤◌, pos, List, [], ◌∷◌, length, map}
use Rattle.std.proofs.Math.ListN.{get_or}
use Rattle.contract.specs.Tree.{ValueTree, available_money, constant, neg_value, add_value, sub_value, mul_value, div_value, choice_value, time_interval_start, time_interval_end, use_value, cond_value}
use Rattle.contract.specs.Tree.{ObservationTree, and_obs, or_obs, not_obs, chose_something, value_ge, value_gt, value_lt, value_le, value_eq, true_obs, false_obs}
use Rattle.contract.specs.Tree.{ActionTree, deposit, choice, notify, ContractTree, close, pay, if_obs, when, let_be, assert, case_trees}
use Rattle.nodes.specs.declared.value_node.ValueNode.{ValueNode}
use Rattle.nodes.specs.declared.value_node.ValueNode.TheVariants.{AvailableMoney, Constant, NegValue, AddValue, SubValue, MulValue, DivValue, ChoiceValue, TimeIntervalStart, TimeIntervalEnd, UseValue, Cond}
use Rattle.nodes.specs.declared.observation_node.ObservationNode.{ObservationNode}
use Rattle.nodes.specs.declared.observation_node.ObservationNode.TheVariants.{AndObs, OrObs, NotObs, ChoseSomething, ValueGE, ValueGT, ValueLT, ValueLE, ValueEQ, TrueObs, FalseObs}
use Rattle.nodes.specs.declared.case_node.CaseNode.{CaseNode}
use Rattle.nodes.specs.declared.case_node.CaseNode.TheVariants.{Deposit, Choice, Notify}
use Rattle.nodes.specs.declared.cont.Cont.{Cont}
use Rattle.nodes.specs.declared.cont_node.ContNode.{ContNode}
use Rattle.nodes.specs.declared.cont_node.ContNode.TheVariants.{Close, Pay, If, When, Let, Assert}
use Rattle.nodes.specs.declared.entry.Entry.{Entry}
use Rattle.table.specs.Heights.{above}

-- the four lists
pub record Flat : Type 0 where
  pub values : List (Entry ValueNode)
  pub observations : List (Entry ObservationNode)
  pub cases : List (Entry CaseNode)
  pub conts : List (Entry ContNode)

abbrev pub nothing : Flat
nothing = record { values = []; observations = []; cases = []; conts = [] }

-- ---- the trees of the nodes, over the trees of the numbers

pub record Trees : Type 0 where
  pub value : ℕ → ValueTree
  pub observation : ℕ → ObservationTree
  pub case : ℕ → ActionTree × ContractTree
  pub cont : ℕ → ContractTree

abbrev pub value_of : Trees → ValueNode → ValueTree
value_of t (AvailableMoney p u) = available_money p u
value_of t (Constant n) = constant n
value_of t (NegValue a) = neg_value (t.value a)
value_of t (AddValue a b) = add_value (t.value a) (t.value b)
value_of t (SubValue a b) = sub_value (t.value a) (t.value b)
value_of t (MulValue a b) = mul_value (t.value a) (t.value b)
value_of t (DivValue a b) = div_value (t.value a) (t.value b)
value_of t (ChoiceValue id) = choice_value id
value_of t TimeIntervalStart = time_interval_start
value_of t TimeIntervalEnd = time_interval_end
value_of t (UseValue x) = use_value x
value_of t (Cond o a b) = cond_value (t.observation o) (t.value a) (t.value b)

abbrev pub observation_of : Trees → ObservationNode → ObservationTree
observation_of t (AndObs o q) = and_obs (t.observation o) (t.observation q)
observation_of t (OrObs o q) = or_obs (t.observation o) (t.observation q)
observation_of t (NotObs o) = not_obs (t.observation o)
observation_of t (ChoseSomething id) = chose_something id
observation_of t (ValueGE a b) = value_ge (t.value a) (t.value b)
observation_of t (ValueGT a b) = value_gt (t.value a) (t.value b)
observation_of t (ValueLT a b) = value_lt (t.value a) (t.value b)
observation_of t (ValueLE a b) = value_le (t.value a) (t.value b)
observation_of t (ValueEQ a b) = value_eq (t.value a) (t.value b)
observation_of t TrueObs = true_obs
observation_of t FalseObs = false_obs

abbrev pub case_of : Trees → CaseNode → ActionTree × ContractTree
case_of t (Deposit a p u v k) = (deposit a p u (t.value v), t.cont k.0)
case_of t (Choice id bounds k) = (choice id bounds, t.cont k.0)
case_of t (Notify o k) = (notify (t.observation o), t.cont k.0)

-- what follows a case
abbrev pub follows : CaseNode → Cont
follows (Deposit a p u v k) = k
follows (Choice id bounds k) = k
follows (Notify o k) = k

abbrev pub cont_of : Trees → ContNode → ContractTree
cont_of t Close = close
cont_of t (Pay p y u v k) = pay p y u (t.value v) (t.cont k.0)
cont_of t (If o k l) = if_obs (t.observation o) (t.cont k.0) (t.cont l.0)
cont_of t (When cs n k) = when (case_trees (map t.case cs)) n (t.cont k.0)
cont_of t (Let x v k) = let_be x (t.value v) (t.cont k.0)
cont_of t (Assert o k) = assert (t.observation o) (t.cont k.0)

-- ---- the entries

abbrev pub value_entry : Flat → ℕ → Entry ValueNode
value_entry f k = get_or f.values k (record { node = Constant (pos 0); height = 0 })

abbrev pub observation_entry : Flat → ℕ → Entry ObservationNode
observation_entry f k = get_or f.observations k (record { node = TrueObs; height = 0 })

abbrev pub case_entry : Flat → ℕ → Entry CaseNode
case_entry f k = get_or f.cases k (record { node = Notify 0 (record { 0 = 0 }); height = 0 })

abbrev pub cont_entry : Flat → ℕ → Entry ContNode
cont_entry f k = get_or f.conts k (record { node = Close; height = 0 })

-- the numbers stand for trees of so many levels; 1,000 serve, for no node is higher than 999
abbrev pub next_level : Flat → Trees → Trees
next_level f t = record { value = λ k. value_of t (value_entry f k).node; observation = λ k. observation_of t (observation_entry f k).node; case = λ k. case_of t (case_entry f k).node; cont = λ k. cont_of t (cont_entry f k).node }

abbrev pub levels : ℕ → Flat → Trees
levels zero f = record { value = λ _. constant (pos 0); observation = λ _. true_obs; case = λ _. (notify true_obs, close); cont = λ _. close }
levels (suc n) f = next_level f (levels n f)

unfoldable pub deepest : ℕ
deepest = 1000

-- what each number stands for
unfoldable pub trees : Flat → Trees
trees f = levels deepest f

abbrev pub value_tree : Flat → ℕ → ValueTree
value_tree f k = (trees f).value k

abbrev pub observation_tree : Flat → ℕ → ObservationTree
observation_tree f k = (trees f).observation k

abbrev pub case_tree : Flat → ℕ → ActionTree × ContractTree
case_tree f k = (trees f).case k

abbrev pub cont_tree : Flat → ℕ → ContractTree
cont_tree f k = (trees f).cont k

-- whether a contract is Close
abbrev pub is_close : ContractTree → Bool
is_close close = true
is_close c = false

-- ---- what a node names

pub data Part : Type 0 where
  a_value : ℕ → Part
  an_observation : ℕ → Part
  a_case : ℕ → Part
  a_cont : ℕ → Part

abbrev pub value_parts : ValueNode → List Part
value_parts (NegValue a) = a_value a ∷ []
value_parts (AddValue a b) = a_value a ∷ a_value b ∷ []
value_parts (SubValue a b) = a_value a ∷ a_value b ∷ []
value_parts (MulValue a b) = a_value a ∷ a_value b ∷ []
value_parts (DivValue a b) = a_value a ∷ a_value b ∷ []
value_parts (Cond o a b) = an_observation o ∷ a_value a ∷ a_value b ∷ []
value_parts (AvailableMoney p t) = []
value_parts (Constant n) = []
value_parts (ChoiceValue id) = []
value_parts TimeIntervalStart = []
value_parts TimeIntervalEnd = []
value_parts (UseValue x) = []

abbrev pub observation_parts : ObservationNode → List Part
observation_parts (AndObs o q) = an_observation o ∷ an_observation q ∷ []
observation_parts (OrObs o q) = an_observation o ∷ an_observation q ∷ []
observation_parts (NotObs o) = an_observation o ∷ []
observation_parts (ValueGE a b) = a_value a ∷ a_value b ∷ []
observation_parts (ValueGT a b) = a_value a ∷ a_value b ∷ []
observation_parts (ValueLT a b) = a_value a ∷ a_value b ∷ []
observation_parts (ValueLE a b) = a_value a ∷ a_value b ∷ []
observation_parts (ValueEQ a b) = a_value a ∷ a_value b ∷ []
observation_parts (ChoseSomething id) = []
observation_parts TrueObs = []
observation_parts FalseObs = []

abbrev pub case_parts : CaseNode → List Part
case_parts (Deposit a p u v k) = a_value v ∷ a_cont k.0 ∷ []
case_parts (Choice id bounds k) = a_cont k.0 ∷ []
case_parts (Notify o k) = an_observation o ∷ a_cont k.0 ∷ []

abbrev pub cont_parts : ContNode → List Part
cont_parts Close = []
cont_parts (Pay p y u v k) = a_value v ∷ a_cont k.0 ∷ []
cont_parts (If o k l) = an_observation o ∷ a_cont k.0 ∷ a_cont l.0 ∷ []
cont_parts (When cs n k) = a_cont k.0 ∷ map a_case cs
cont_parts (Let x v k) = a_value v ∷ a_cont k.0 ∷ []
cont_parts (Assert o k) = an_observation o ∷ a_cont k.0 ∷ []

-- a number of the table
abbrev pub Stands : Flat → Part → Type 0
Stands f (a_value k) = k < length f.values
Stands f (an_observation k) = k < length f.observations
Stands f (a_case k) = k < length f.cases
Stands f (a_cont k) = k < length f.conts

abbrev pub AllStand : Flat → List Part → Type 0
AllStand f [] = Unit {0}
AllStand f (p ∷ ps) = Stands f p × AllStand f ps

-- its height, and what its node names
abbrev pub height_of : Flat → Part → ℕ
height_of f (a_value k) = (value_entry f k).height
height_of f (an_observation k) = (observation_entry f k).height
height_of f (a_case k) = (case_entry f k).height
height_of f (a_cont k) = (cont_entry f k).height

abbrev pub parts_of : Flat → Part → List Part
parts_of f (a_value k) = value_parts (value_entry f k).node
parts_of f (an_observation k) = observation_parts (observation_entry f k).node
parts_of f (a_case k) = case_parts (case_entry f k).node
parts_of f (a_cont k) = cont_parts (cont_entry f k).node

-- the height of a node that names these
abbrev pub height_above : Flat → List Part → ℕ
height_above f ps = above (map (height_of f) ps)

-- a node names standing numbers, its height is exact, and it is at most 999
pub record Fine (f : Flat) (ps : List Part) (height : ℕ) : Type 0 where
  pub names : AllStand f ps
  pub exact : height ≡ height_above f ps
  pub low : height ≤ 999

-- each node of a table is so
pub record IsFlat (f : Flat) : Type 0 where
  pub fine : (p : Part) → Stands f p → Fine f (parts_of f p) (height_of f p)

-- a number of a table
pub record Has (f : Flat) (p : Part) : Type 0 where
  pub flat : IsFlat f
  pub stands : Stands f p

-- two assignments of trees agree at a number
abbrev pub Agrees : Trees → Trees → Part → Type 0
Agrees t u (a_value k) = t.value k ≡ u.value k
Agrees t u (an_observation k) = t.observation k ≡ u.observation k
Agrees t u (a_case k) = t.case k ≡ u.case k
Agrees t u (a_cont k) = t.cont k ≡ u.cont k

-- each number of f stands in the table g, with the same tree
pub record Extends (f g : Flat) : Type 0 where
  pub flat : IsFlat g
  pub stands : (p : Part) → Stands f p → Stands g p
  pub keeps : (p : Part) → Stands f p → Agrees (trees g) (trees f) p
