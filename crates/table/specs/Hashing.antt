-- No reader needs this file: it serves the proofs of this crate and those above it.
-- What a table feeds a hasher: its four lists, each node with its height.
use Rattle.std.specs.Prelude.{◌++◌}
use Rattle.std.specs.Hash as fed
use Rattle.nodes.specs.declared.entry.Entry.{Entry}
use Rattle.nodes.specs.declared.value_node.ValueNode.{ValueNode}
use Rattle.nodes.specs.declared.observation_node.ObservationNode.{ObservationNode}
use Rattle.nodes.specs.declared.case_node.CaseNode.{CaseNode}
use Rattle.nodes.specs.declared.cont_node.ContNode.{ContNode}
use Rattle.nodes.specs.contracts.value_node.ValueNodeHash.TheImpl as value_hash
use Rattle.nodes.specs.contracts.observation_node.ObservationNodeHash.TheImpl as observation_hash
use Rattle.nodes.specs.contracts.case_node.CaseNodeHash.TheImpl as case_hash
use Rattle.nodes.specs.contracts.cont_node.ContNodeHash.TheImpl as cont_hash
use Rattle.table.specs.Flat.{Flat}

abbrev value_writes : Entry ValueNode → fed.HashWrites
value_writes e = (value_hash.ghosts).hash_input e.node ++ fed.u16 e.height

abbrev observation_writes : Entry ObservationNode → fed.HashWrites
observation_writes e = (observation_hash.ghosts).hash_input e.node ++ fed.u16 e.height

abbrev case_writes : Entry CaseNode → fed.HashWrites
case_writes e = (case_hash.ghosts).hash_input e.node ++ fed.u16 e.height

abbrev cont_writes : Entry ContNode → fed.HashWrites
cont_writes e = (cont_hash.ghosts).hash_input e.node ++ fed.u16 e.height

abbrev pub flat_writes : Flat → fed.HashWrites
flat_writes f = fed.slice value_writes f.values ++ fed.slice observation_writes f.observations ++ fed.slice case_writes f.cases ++ fed.slice cont_writes f.conts
