-- No reader needs this file: it serves the proofs of this crate and those above it.
-- A number of a table stands for its node over what the numbers stand for.
use Rattle.std.specs.Prelude.{◌≡◌, ℕ, ◌<◌, ◌≤◌, List, [], ◌∷◌, map, refl, suc, zero}
use Rattle.std.proofs.Common.{arith}
use Rattle.nodes.specs.declared.value_node.ValueNode.{ValueNode}
use Rattle.nodes.specs.declared.value_node.ValueNode.TheVariants.{AvailableMoney, Constant, NegValue, AddValue, SubValue, MulValue, DivValue, ChoiceValue, TimeIntervalStart, TimeIntervalEnd, UseValue, Cond}
use Rattle.nodes.specs.declared.observation_node.ObservationNode.{ObservationNode}
use Rattle.nodes.specs.declared.observation_node.ObservationNode.TheVariants.{AndObs, OrObs, NotObs, ChoseSomething, ValueGE, ValueGT, ValueLT, ValueLE, ValueEQ, TrueObs, FalseObs}
use Rattle.nodes.specs.declared.case_node.CaseNode.{CaseNode}
use Rattle.nodes.specs.declared.case_node.CaseNode.TheVariants.{Deposit, Choice, Notify}
use Rattle.nodes.specs.declared.cont_node.ContNode.{ContNode}
use Rattle.nodes.specs.declared.cont_node.ContNode.TheVariants.{Close, Pay, If, When, Let, Assert}
use Rattle.table.specs.Heights.{greatest}
use Rattle.table.specs.Flat.{Flat, Trees, value_of, observation_of, case_of, cont_of, value_entry, observation_entry, case_entry, cont_entry, next_level, levels, deepest, trees}
use Rattle.table.specs.Flat.{Part, a_value, an_observation, a_case, a_cont, value_parts, observation_parts, case_parts, cont_parts, Stands, AllStand, height_of, parts_of, height_above, IsFlat, Agrees}

-- ---- trees that agree on what a node names give it one tree

abbrev pub AllAgree : Trees → Trees → List Part → Type 0
AllAgree t u [] = Unit {0}
AllAgree t u (p ∷ ps) = Agrees t u p × AllAgree t u ps

cases_agree : (t u : Trees) (ks : List ℕ) → AllAgree t u (map a_case ks) → map t.case ks ≡ map u.case ks
cases_agree t u [] a = refl
cases_agree t u (k ∷ ks) a = cc (a.0, cases_agree t u ks a.1)

pub value_agrees : (t u : Trees) (n : ValueNode) → AllAgree t u (value_parts n) → value_of t n ≡ value_of u n
value_agrees t u (AvailableMoney p v) a = refl
value_agrees t u (Constant n) a = refl
value_agrees t u (NegValue x) a = cc (a.0)
value_agrees t u (AddValue x y) a = cc (a.0, a.1.0)
value_agrees t u (SubValue x y) a = cc (a.0, a.1.0)
value_agrees t u (MulValue x y) a = cc (a.0, a.1.0)
value_agrees t u (DivValue x y) a = cc (a.0, a.1.0)
value_agrees t u (ChoiceValue id) a = refl
value_agrees t u TimeIntervalStart a = refl
value_agrees t u TimeIntervalEnd a = refl
value_agrees t u (UseValue x) a = refl
value_agrees t u (Cond o x y) a = cc (a.0, a.1.0, a.1.1.0)

pub observation_agrees : (t u : Trees) (n : ObservationNode) → AllAgree t u (observation_parts n) → observation_of t n ≡ observation_of u n
observation_agrees t u (AndObs o q) a = cc (a.0, a.1.0)
observation_agrees t u (OrObs o q) a = cc (a.0, a.1.0)
observation_agrees t u (NotObs o) a = cc (a.0)
observation_agrees t u (ChoseSomething id) a = refl
observation_agrees t u (ValueGE x y) a = cc (a.0, a.1.0)
observation_agrees t u (ValueGT x y) a = cc (a.0, a.1.0)
observation_agrees t u (ValueLT x y) a = cc (a.0, a.1.0)
observation_agrees t u (ValueLE x y) a = cc (a.0, a.1.0)
observation_agrees t u (ValueEQ x y) a = cc (a.0, a.1.0)
observation_agrees t u TrueObs a = refl
observation_agrees t u FalseObs a = refl

pub case_agrees : (t u : Trees) (n : CaseNode) → AllAgree t u (case_parts n) → case_of t n ≡ case_of u n
case_agrees t u (Deposit p q v x k) a = cc (a.0, a.1.0)
case_agrees t u (Choice id bounds k) a = cc (a.0)
case_agrees t u (Notify o k) a = cc (a.0, a.1.0)

pub cont_agrees : (t u : Trees) (n : ContNode) → AllAgree t u (cont_parts n) → cont_of t n ≡ cont_of u n
cont_agrees t u Close a = refl
cont_agrees t u (Pay p y v x k) a = cc (a.0, a.1.0)
cont_agrees t u (If o k l) a = cc (a.0, a.1.0, a.1.1.0)
cont_agrees t u (When cs n k) a = cc (a.0, cases_agree t u cs a.1)
cont_agrees t u (Let x v k) a = cc (a.0, a.1.0)
cont_agrees t u (Assert o k) a = cc (a.0, a.1.0)

-- one level more agrees where what the node names does
step_agrees : (f : Flat) (t u : Trees) (p : Part) → AllAgree t u (parts_of f p) → Agrees (next_level f t) (next_level f u) p
step_agrees f t u (a_value k) a = value_agrees t u (value_entry f k).node a
step_agrees f t u (an_observation k) a = observation_agrees t u (observation_entry f k).node a
step_agrees f t u (a_case k) a = case_agrees t u (case_entry f k).node a
step_agrees f t u (a_cont k) a = cont_agrees t u (cont_entry f k).node a

-- ---- a number stands for its node over what the numbers stand for

-- the trees agree at numbers of height below h
abbrev AgreeBelow : Flat → ℕ → Trees → Trees → Type 0
AgreeBelow f h t u = (p : Part) → Stands f p → height_of f p < h → Agrees t u p

parts_below : (f : Flat) (h : ℕ) (t u : Trees) (ps : List Part) → AgreeBelow f h t u → AllStand f ps → greatest (map (height_of f) ps) < h → AllAgree t u ps
parts_below f h t u [] a s l = tt
parts_below f h t u (p ∷ ps) a s l = (a p s.0 (omega arith), parts_below f h t u ps a s.1 (omega arith))

parts_agree : (f : Flat) (h : ℕ) (t u : Trees) (ps : List Part) → AgreeBelow f h t u → AllStand f ps → height_above f ps ≤ h → AllAgree t u ps
parts_agree f h t u [] a s l = tt
parts_agree f h t u (p ∷ ps) a s l = parts_below f h t u (p ∷ ps) a s (omega arith)

levels_agree : (f : Flat) → IsFlat f → (n : ℕ) → AgreeBelow f n (levels n f) (next_level f (levels n f))
levels_agree f w zero = λ p s l. absurd (omega arith)
levels_agree f w (suc n) = λ p s l.
    let e = w.fine p s in
    step_agrees f (levels n f) (next_level f (levels n f)) p (parts_agree f n (levels n f) (next_level f (levels n f)) (parts_of f p) (levels_agree f w n) e.names (omega (arith, e.exact)))

pub tree_is : (f : Flat) (p : Part) → IsFlat f → Stands f p → Agrees (trees f) (next_level f (trees f)) p
unfolding trees deepest
tree_is f p w s = levels_agree f w deepest p s (let e = w.fine p s in omega (arith, e.low))
