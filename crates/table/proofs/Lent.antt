-- What is known of a node that is lent.
use Rattle.std.specs.Prelude.{◌≡◌, ℕ, ◌<◌, ◌≤◌, List, length}
use Rattle.std.proofs.Common.{subst}
use Rattle.nodes.specs.declared.value_node.ValueNode.{ValueNode}
use Rattle.nodes.specs.declared.observation_node.ObservationNode.{ObservationNode}
use Rattle.nodes.specs.declared.case_node.CaseNode.{CaseNode}
use Rattle.nodes.specs.declared.cont_node.ContNode.{ContNode}
use Rattle.nodes.specs.declared.entry.Entry.{Entry}
use Rattle.table.specs.Heights.{value_height, observation_height, case_height, contract_height}
use Rattle.table.specs.Flat.{Flat, value_of, observation_of, case_of, cont_of, value_entry, observation_entry, case_entry, cont_entry, trees, value_tree, observation_tree, case_tree, cont_tree}
use Rattle.table.specs.Flat.{Part, a_value, an_observation, a_case, a_cont, value_parts, observation_parts, case_parts, cont_parts, AllStand, IsFlat}
use Rattle.table.specs.LevelLaws.{tree_is}
use Rattle.table.proofs.HeightLaws.{height_is}

pub record Lent (TreeIsNode : Type 0) (f : Flat) (ps : List Part) (stored high : ℕ) : Type 0 where
  pub tree : TreeIsNode
  pub stand : AllStand f ps
  pub height : stored ≡ high
  pub low : stored ≤ 999

pub lent_value : (f : Flat) (k : ℕ) (e : Entry ValueNode) → IsFlat f → k < length f.values → value_entry f k ≡ e →
    Lent (value_tree f k ≡ value_of (trees f) e.node) f (value_parts e.node) e.height (value_height (value_tree f k))
lent_value f k e w s q =
    let fine = w.fine (a_value k) s in
    subst (λ x. Lent (value_tree f k ≡ value_of (trees f) x.node) f (value_parts x.node) x.height (value_height (value_tree f k))) q
    (record { tree = tree_is f (a_value k) w s; stand = fine.names; height = height_is f (a_value k) w s; low = fine.low })

pub lent_observation : (f : Flat) (k : ℕ) (e : Entry ObservationNode) → IsFlat f → k < length f.observations → observation_entry f k ≡ e →
    Lent (observation_tree f k ≡ observation_of (trees f) e.node) f (observation_parts e.node) e.height (observation_height (observation_tree f k))
lent_observation f k e w s q =
    let fine = w.fine (an_observation k) s in
    subst (λ x. Lent (observation_tree f k ≡ observation_of (trees f) x.node) f (observation_parts x.node) x.height (observation_height (observation_tree f k))) q
    (record { tree = tree_is f (an_observation k) w s; stand = fine.names; height = height_is f (an_observation k) w s; low = fine.low })

pub lent_case : (f : Flat) (k : ℕ) (e : Entry CaseNode) → IsFlat f → k < length f.cases → case_entry f k ≡ e →
    Lent (case_tree f k ≡ case_of (trees f) e.node) f (case_parts e.node) e.height (case_height (case_tree f k))
lent_case f k e w s q =
    let fine = w.fine (a_case k) s in
    subst (λ x. Lent (case_tree f k ≡ case_of (trees f) x.node) f (case_parts x.node) x.height (case_height (case_tree f k))) q
    (record { tree = tree_is f (a_case k) w s; stand = fine.names; height = height_is f (a_case k) w s; low = fine.low })

pub lent_cont : (f : Flat) (k : ℕ) (e : Entry ContNode) → IsFlat f → k < length f.conts → cont_entry f k ≡ e →
    Lent (cont_tree f k ≡ cont_of (trees f) e.node) f (cont_parts e.node) e.height (contract_height (cont_tree f k))
lent_cont f k e w s q =
    let fine = w.fine (a_cont k) s in
    subst (λ x. Lent (cont_tree f k ≡ cont_of (trees f) x.node) f (cont_parts x.node) x.height (contract_height (cont_tree f k))) q
    (record { tree = tree_is f (a_cont k) w s; stand = fine.names; height = height_is f (a_cont k) w s; low = fine.low })
