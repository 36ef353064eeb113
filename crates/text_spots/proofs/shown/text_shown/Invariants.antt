use Rattle.std.proofs.Common.{◌≡◌, ◌≤◌, length, string_bytes, encode_utf8_all, flat_map}
use Rattle.text_spots.specs.Shown.{seen}
use Rattle.text_spots.proofs.shown.text_shown.Given as goal

-- the characters so far are shown
abbrev pub invariant-loop-c : goal.invariant-loop-c
invariant-loop-c l = record {
  count : l.count ≡ length l.yielded;
  few : l.count ≤ 60;
  so_far : string_bytes l.out ≡ encode_utf8_all (flat_map seen l.yielded);
}
