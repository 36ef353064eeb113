use Rattle.std.proofs.Common.{◌≡◌, take}
use Rattle.analysis_values.specs.Entries.{in_numbers}
use Rattle.analysis_values.proofs.lookup.in_expressions.Given as goal

abbrev pub invariant-loop-key : goal.invariant-loop-key
invariant-loop-key g l = l.out.items ≡ in_numbers (take l.key-index l.entries)
