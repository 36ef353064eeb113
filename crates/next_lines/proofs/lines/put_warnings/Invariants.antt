use Rattle.std.proofs.Common.{◌≡◌, ◌++◌, take}
use Rattle.std.specs.Prelude.{flat_map}
use Rattle.next_lines.specs.Lines.{warning_line}
use Rattle.next_lines.specs.Seen.{seen_warning}
use Rattle.next_lines.proofs.lines.put_warnings.Given as goal

abbrev pub invariant-loop-warning : goal.invariant-loop-warning
invariant-loop-warning l = l.out.items ≡ l.fn.out.items ++ flat_map (λ w. warning_line (seen_warning w)) (take l.warning-index l.warned)
