use Rattle.std.proofs.Common.{◌≡◌, ◌++◌, take}
use Rattle.std.specs.Prelude.{flat_map}
use Rattle.next_lines.specs.Lines.{input_line}
use Rattle.next_lines.specs.Seen.{seen_case}
use Rattle.next_lines.proofs.lines.put_cases.Given as goal

abbrev pub invariant-loop-case : goal.invariant-loop-case
invariant-loop-case l = l.out.items ≡ l.fn.out.items ++ flat_map (λ c. input_line l.path (seen_case c)) (take l.case-index l.cases)
