-- The height that a table keeps with a node is that of its tree.
use Rattle.std.specs.Prelude.{◌≡◌, ℕ, ◌<◌, ◌≤◌, List, [], ◌∷◌, map, refl, suc, zero}
use Rattle.std.proofs.Common.{sym, ◌∙◌, ap, arith}
use Rattle.contract.specs.Tree.{case_trees}
use Rattle.nodes.specs.declared.value_node.ValueNode.{ValueNode}
use Rattle.nodes.specs.declared.value_node.ValueNode.TheVariants.{AvailableMoney, Constant, NegValue, AddValue, SubValue, MulValue, DivValue, ChoiceValue, TimeIntervalStart, TimeIntervalEnd, UseValue, Cond}
use Rattle.nodes.specs.declared.observation_node.ObservationNode.{ObservationNode}
use Rattle.nodes.specs.declared.observation_node.ObservationNode.TheVariants.{AndObs, OrObs, NotObs, ChoseSomething, ValueGE, ValueGT, ValueLT, ValueLE, ValueEQ, TrueObs, FalseObs}
use Rattle.nodes.specs.declared.case_node.CaseNode.{CaseNode}
use Rattle.nodes.specs.declared.case_node.CaseNode.TheVariants.{Deposit, Choice, Notify}
use Rattle.nodes.specs.declared.cont_node.ContNode.{ContNode}
use Rattle.nodes.specs.declared.cont_node.ContNode.TheVariants.{Close, Pay, If, When, Let, Assert}
use Rattle.table.specs.Heights.{greatest, above, value_height, observation_height, case_height, case_heights, contract_height}
use Rattle.table.specs.Flat.{Flat, Trees, value_of, observation_of, case_of, cont_of, value_entry, observation_entry, case_entry, cont_entry, trees}
use Rattle.table.specs.Flat.{Part, a_value, an_observation, a_case, a_cont, value_parts, observation_parts, case_parts, cont_parts, Stands, AllStand, height_of, parts_of, height_above, IsFlat}
use Rattle.table.specs.LevelLaws.{tree_is}

abbrev pub tree_height : Trees → Part → ℕ
tree_height t (a_value k) = value_height (t.value k)
tree_height t (an_observation k) = observation_height (t.observation k)
tree_height t (a_case k) = case_height (t.case k)
tree_height t (a_cont k) = contract_height (t.cont k)

pub value_above : (t : Trees) (n : ValueNode) → value_height (value_of t n) ≡ above (map (tree_height t) (value_parts n))
value_above t (AvailableMoney p v) = refl
value_above t (Constant n) = refl
value_above t (NegValue x) = refl
value_above t (AddValue x y) = refl
value_above t (SubValue x y) = refl
value_above t (MulValue x y) = refl
value_above t (DivValue x y) = refl
value_above t (ChoiceValue id) = refl
value_above t TimeIntervalStart = refl
value_above t TimeIntervalEnd = refl
value_above t (UseValue x) = refl
value_above t (Cond o x y) = refl

pub observation_above : (t : Trees) (n : ObservationNode) → observation_height (observation_of t n) ≡ above (map (tree_height t) (observation_parts n))
observation_above t (AndObs o q) = refl
observation_above t (OrObs o q) = refl
observation_above t (NotObs o) = refl
observation_above t (ChoseSomething id) = refl
observation_above t (ValueGE x y) = refl
observation_above t (ValueGT x y) = refl
observation_above t (ValueLT x y) = refl
observation_above t (ValueLE x y) = refl
observation_above t (ValueEQ x y) = refl
observation_above t TrueObs = refl
observation_above t FalseObs = refl

pub case_above : (t : Trees) (n : CaseNode) → case_height (case_of t n) ≡ above (map (tree_height t) (case_parts n))
case_above t (Deposit p q v x k) = refl
case_above t (Choice id bounds k) = refl
case_above t (Notify o k) = refl

listed_heights : (t : Trees) (ks : List ℕ) → case_heights (case_trees (map t.case ks)) ≡ map (tree_height t) (map a_case ks)
listed_heights t [] = refl
listed_heights t (k ∷ ks) = ap (λ ns. case_height (t.case k) ∷ ns) (listed_heights t ks)

pub cont_above : (t : Trees) (n : ContNode) → contract_height (cont_of t n) ≡ above (map (tree_height t) (cont_parts n))
cont_above t Close = refl
cont_above t (Pay p y v x k) = refl
cont_above t (If o k l) = refl
cont_above t (When cs n k) = ap (λ ns. above (contract_height (t.cont k.0) ∷ ns)) (listed_heights t cs)
cont_above t (Let x v k) = refl
cont_above t (Assert o k) = refl

part_above : (f : Flat) (p : Part) → IsFlat f → Stands f p → tree_height (trees f) p ≡ above (map (tree_height (trees f)) (parts_of f p))
part_above f (a_value k) w s = ap value_height (tree_is f (a_value k) w s) ∙ value_above (trees f) (value_entry f k).node
part_above f (an_observation k) w s = ap observation_height (tree_is f (an_observation k) w s) ∙ observation_above (trees f) (observation_entry f k).node
part_above f (a_case k) w s = ap case_height (tree_is f (a_case k) w s) ∙ case_above (trees f) (case_entry f k).node
part_above f (a_cont k) w s = ap contract_height (tree_is f (a_cont k) w s) ∙ cont_above (trees f) (cont_entry f k).node

abbrev HighBelow : Flat → ℕ → Type 0
HighBelow f h = (p : Part) → Stands f p → height_of f p < h → height_of f p ≡ tree_height (trees f) p

heights_below : (f : Flat) (h : ℕ) (ps : List Part) → HighBelow f h → AllStand f ps → greatest (map (height_of f) ps) < h → map (height_of f) ps ≡ map (tree_height (trees f)) ps
heights_below f h [] a s l = refl
heights_below f h (p ∷ ps) a s l = cc (a p s.0 (omega arith), heights_below f h ps a s.1 (omega arith))

heights_above : (f : Flat) (h : ℕ) (ps : List Part) → HighBelow f h → AllStand f ps → height_above f ps ≤ h → height_above f ps ≡ above (map (tree_height (trees f)) ps)
heights_above f h [] a s l = refl
heights_above f h (p ∷ ps) a s l = ap above (heights_below f h (p ∷ ps) a s (omega arith))

high : (f : Flat) → IsFlat f → (h : ℕ) → HighBelow f h
high f w zero = λ p s l. absurd (omega arith)
high f w (suc h) = λ p s l.
    let e = w.fine p s in
    e.exact ∙ (heights_above f h (parts_of f p) (high f w h) e.names (omega (arith, e.exact)) ∙ sym (part_above f p w s))

-- the height of a standing number is the contract_height of its tree
pub height_is : (f : Flat) (p : Part) → IsFlat f → Stands f p → height_of f p ≡ tree_height (trees f) p
height_is f p w s = high f w (suc (height_of f p)) p s (omega arith)

-- the height of a node that names standing numbers is one more than the deepest of their trees
pub above_is : (f : Flat) (ps : List Part) → IsFlat f → AllStand f ps → height_above f ps ≡ above (map (tree_height (trees f)) ps)
above_is f ps w s = heights_above f (height_above f ps) ps (high f w (height_above f ps)) s (omega arith)
