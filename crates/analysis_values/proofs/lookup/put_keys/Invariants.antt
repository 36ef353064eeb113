use Rattle.std.proofs.Common.{◌≡◌, ◌++◌, take}
use Rattle.analysis_values.specs.Entries.{keys_of}
use Rattle.analysis_values.proofs.lookup.put_keys.Given as goal

abbrev pub invariant-loop-key : goal.invariant-loop-key
invariant-loop-key g l = l.keys ≡ l.fn.keys ++ keys_of (take l.key-index l.entries)
