use Rattle.std.proofs.Common.{◌≡◌, ◌++◌, take}
use Rattle.analysis_values.specs.Entries.{other_keys}
use Rattle.analysis_values.proofs.lookup.put_other_keys.Given as goal

abbrev pub invariant-loop-key : goal.invariant-loop-key
invariant-loop-key l = l.keys ≡ l.fn.keys ++ other_keys l.others (take l.key-index l.entries)
