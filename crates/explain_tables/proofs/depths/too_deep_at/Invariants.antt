use Rattle.std.proofs.Common.{◌≡◌, ◌+◌, ◌<◌, Some}
use Rattle.contract.specs.Tree.{contract_tree}
use Rattle.compiler.specs.Table.Heights.{contract_height}
use Rattle.trace.specs.Paths.{part_along}
use Rattle.explain_tables.specs.Depths.{levels_of}
use Rattle.explain_tables.specs.DepthsSupport.{IsWay}
use Rattle.explain_tables.proofs.depths.too_deep_at.Given as goal

-- the part at the end of the way is higher than the room that it leaves
abbrev pub invariant-far : goal.invariant-far
invariant-far l = IsWay (contract_tree l.contract) l.way

abbrev pub decreases-far : goal.decreases-far
decreases-far l = l.stride

-- still so
abbrev pub invariant-way : goal.invariant-way
invariant-way l = record {
  stands : part_along (contract_tree l.contract) l.path ≡ Some (contract_tree l.at);
  levels : levels_of l.path + l.room ≡ 999;
  high : l.room < contract_height (contract_tree l.at);
}

abbrev pub decreases-way : goal.decreases-way
decreases-way l = l.room
