use Rattle.std.proofs.Common.{◌≡◌, ◌≤◌, map, drop, max}
use Rattle.table.specs.Heights.{greatest}
use Rattle.table.specs.Flat.{AllStand, a_case, height_of}
use Rattle.table.proofs.table.Table.of_cases.Given as goal

-- the highest so far and of the rest are the highest of all
abbrev pub invariant-loop-case : goal.invariant-loop-case
invariant-loop-case l = record {
  whole : max l.highest (greatest (map (height_of l.self) (map a_case (drop l.case-index l.cases)))) ≡ greatest (map (height_of l.self) (map a_case l.cases));
  stand : AllStand l.self (map a_case (drop l.case-index l.cases));
  low : l.highest ≤ 999;
}
