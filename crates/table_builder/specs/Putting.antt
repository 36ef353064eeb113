-- One node, put into a table. Where an equal node stands in its list, of the same form, terms and numbers, the table stays
-- and that one's number serves; else the node goes to the end of its list. What comes of it is the table, and the number.
use Rattle.std.specs.Prelude.{ℕ, ◌+◌, List, Option, Some, None, length, map, position, option_map}
use base.Stored.{Coded}
use Rattle.table.specs.Collections.Same.{same_by}
use Rattle.table.specs.Nodes.declared.entry.Entry.{Entry}
use Rattle.table.specs.Nodes.declared.cont.Cont.{Cont}
use Rattle.table.specs.Nodes.declared.value_node.ValueNode.{ValueNode}
use Rattle.table.specs.Nodes.declared.observation_node.ObservationNode.{ObservationNode}
use Rattle.table.specs.Nodes.declared.case_node.CaseNode.{CaseNode}
use Rattle.table.specs.Nodes.declared.cont_node.ContNode.{ContNode}
use Rattle.table.specs.Nodes.contracts.value_node.ValueNode as value
use Rattle.table.specs.Nodes.contracts.observation_node.ObservationNode as observation
use Rattle.table.specs.Nodes.contracts.case_node.CaseNode as case
use Rattle.table.specs.Nodes.contracts.cont_node.ContNode as cont
use Rattle.table.specs.Flat.{Flat}
use Rattle.table.specs.Pushing.{with_value, with_observation, with_case, with_cont}

-- the nodes of a list, without their heights
abbrev pub nodes_of : {N : Type 0} → List (Entry N) → List N
nodes_of entries = map (λ e. e.node) entries

-- the number under which a node stands in a list, if it stands there; `same_by` passes exactly for equal nodes
abbrev pub standing : {N : Type 0} → Coded N → List (Entry N) → N → Option ℕ
standing same entries node = position (same_by same node) (nodes_of entries)

-- the table as it is, with the number that was found; else what is made
abbrev pub found_or : {I : Type 0} → Flat → Option I → Flat × I → Flat × I
found_or f (Some k) made = (f, k)
found_or f None made = made

unfoldable pub put_value : Flat → ValueNode → Flat × ℕ
put_value f n = found_or f (standing value.the_row.coded f.values n) (with_value f n, length f.values)

unfoldable pub put_observation : Flat → ObservationNode → Flat × ℕ
put_observation f n = found_or f (standing observation.the_row.coded f.observations n) (with_observation f n, length f.observations)

unfoldable pub put_case : Flat → CaseNode → Flat × ℕ
put_case f n = found_or f (standing case.the_row.coded f.cases n) (with_case f n, length f.cases)

unfoldable pub put_cont : Flat → ContNode → Flat × Cont
put_cont f n = found_or f (option_map (λ k. record { 0 = k }) (standing cont.the_row.coded f.conts n)) (with_cont f n, record { 0 = length f.conts })

-- the values, observations and cases of a table
abbrev pub others_in : Flat → ℕ
others_in f = length f.values + length f.observations + length f.cases
