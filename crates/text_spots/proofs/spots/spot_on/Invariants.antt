use Rattle.std.proofs.Common.{◌≡◌, ◌+◌, ◌≤◌}
use Rattle.text_spots.specs.Spots.{spot_at}
use Rattle.text_spots.proofs.spots.spot_on.Given as goal

-- the spot of the byte that comes next
abbrev pub invariant-loop-at : goal.invariant-loop-at
invariant-loop-at l = record {
  behind : 3 ≤ l.at;
  spot : l.here ≡ spot_at l.text l.at;
  line : l.here.line ≤ l.at + 1;
  column : l.here.column ≤ l.at + 1;
}
