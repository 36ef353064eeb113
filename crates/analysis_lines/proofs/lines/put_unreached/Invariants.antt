use Rattle.std.proofs.Common.{◌≡◌, ◌++◌, take}
use Rattle.std.specs.Prelude.{flat_map}
use Rattle.analysis_lines.specs.Lines.{unreached_line}
use Rattle.analysis_lines.proofs.lines.put_unreached.Given as goal

abbrev pub invariant-loop-keys : goal.invariant-loop-keys
invariant-loop-keys l = l.out.items ≡ l.fn.out.items ++ flat_map unreached_line (take l.keys-index l.places)
