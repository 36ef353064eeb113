use Rattle.std.proofs.Common.{◌≡◌, ◌++◌, take}
use Rattle.std.specs.Prelude.{flat_map}
use Rattle.analysis_lines.specs.Kept.{kept_line}
use Rattle.analysis_lines.proofs.kept.put_each.Given as goal

abbrev pub invariant-loop-one : goal.invariant-loop-one
invariant-loop-one l = l.out.items ≡ l.fn.out.items ++ flat_map (kept_line l.given l.party) (take l.one-index l.kept)
