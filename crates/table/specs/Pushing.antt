-- What a push adds.
use Rattle.std.specs.Prelude.{[], ◌∷◌, ◌++◌}
use Rattle.nodes.specs.declared.value_node.ValueNode.{ValueNode}
use Rattle.nodes.specs.declared.observation_node.ObservationNode.{ObservationNode}
use Rattle.nodes.specs.declared.case_node.CaseNode.{CaseNode}
use Rattle.nodes.specs.declared.cont_node.ContNode.{ContNode}
use Rattle.table.specs.Flat.{Flat, value_parts, observation_parts, case_parts, cont_parts, height_above}

-- ---- the table with one node more

abbrev pub with_value : Flat → ValueNode → Flat
with_value f n = record f { values = f.values ++ record { node = n; height = height_above f (value_parts n) } ∷ [] }

abbrev pub with_observation : Flat → ObservationNode → Flat
with_observation f n = record f { observations = f.observations ++ record { node = n; height = height_above f (observation_parts n) } ∷ [] }

abbrev pub with_case : Flat → CaseNode → Flat
with_case f n = record f { cases = f.cases ++ record { node = n; height = height_above f (case_parts n) } ∷ [] }

abbrev pub with_cont : Flat → ContNode → Flat
with_cont f n = record f { conts = f.conts ++ record { node = n; height = height_above f (cont_parts n) } ∷ [] }
