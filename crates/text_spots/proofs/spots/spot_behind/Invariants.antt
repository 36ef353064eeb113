use Rattle.std.proofs.Common.{◌≡◌, ◌+◌, ◌≤◌, take}
use Rattle.text_spots.specs.Spots.{spot_behind}
use Rattle.text_spots.proofs.spots.spot_behind.Given as goal

-- the spot behind the bytes so far
abbrev pub invariant-loop-byte : goal.invariant-loop-byte
invariant-loop-byte l = record {
  at : l.spot ≡ spot_behind (take l.byte-index l.bytes);
  line : l.spot.line ≤ l.byte-index + 1;
  column : l.spot.column ≤ l.byte-index + 1;
}
