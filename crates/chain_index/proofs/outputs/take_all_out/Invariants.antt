use Rattle.std.proofs.Common.{◌≡◌, length}
use Rattle.std.specs.Map.{keys_of}
use Rattle.chain_index.specs.HolesSupport.{live, staying}
use Rattle.chain_index.proofs.outputs.take_all_out.Given as goal

abbrev pub invariant-loop-reference : goal.invariant-loop-reference
invariant-loop-reference l = record {
  live_datums : staying l.set.keys (live l.datums.entries) ≡ staying l.initial.set.keys (live l.initial.datums.entries);
  datum_keys : keys_of l.datums.entries ≡ keys_of l.initial.datums.entries;
  live : staying l.set.keys (live l.outputs) ≡ staying l.initial.set.keys (live l.initial.outputs);
  keys : keys_of l.outputs ≡ keys_of l.initial.outputs;
}

abbrev pub decreases-loop-reference : goal.decreases-loop-reference
decreases-loop-reference l = length l.set.keys
