-- No reader needs this file: it serves the steps in which a node is put into a table.
use Rattle.std.specs.Prelude.{◌≡◌, ℕ, List, [], ◌∷◌, ◌++◌, Option, Some, None}
use Rattle.table.specs.Nodes.declared.value_node.ValueNode.{ValueNode}
use Rattle.table.specs.Nodes.declared.observation_node.ObservationNode.{ObservationNode}
use Rattle.table.specs.Nodes.declared.case_node.CaseNode.{CaseNode}
use Rattle.table.specs.Nodes.declared.cont_node.ContNode.{ContNode}
use Rattle.table.specs.Flat.{Flat}
use Rattle.table_builder.specs.Putting.{nodes_of}
use Rattle.table_builder.specs.declared.node_index.Place.{Place}
use Rattle.table_builder.specs.declared.node_index.Place.TheVariants.{Stands, New}

-- the indexes have the nodes of the table, in order
pub record IsIndexed (f : Flat) (vs : List ValueNode) (os : List ObservationNode) (cs : List CaseNode) (ks : List ContNode) : Type 0 where
  pub values : vs ≡ nodes_of f.values
  pub observations : os ≡ nodes_of f.observations
  pub cases : cs ≡ nodes_of f.cases
  pub conts : ks ≡ nodes_of f.conts

-- what is told of a node whose number may have been found: the number, or the node itself
abbrev pub IsPlace : {N : Type 0} → Option ℕ → N → Place N → Type 0
IsPlace found node (Stands k) = found ≡ Some k
IsPlace found node (New n) = (found ≡ None) × (n ≡ node)

-- the nodes with one more, where its number wasn't found
abbrev pub with_node : {N : Type 0} → Option ℕ → List N → N → List N
with_node (Some k) nodes node = nodes
with_node None nodes node = nodes ++ node ∷ []
