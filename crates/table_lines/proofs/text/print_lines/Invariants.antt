use Rattle.std.proofs.Common.{◌≡◌, ◌++◌, drop, decimal, string_bytes}
use Rattle.table_lines.specs.TableLines.{lines}
use Rattle.table_lines.proofs.text.print_lines.Given as goal

-- what was printed and the lines that are left are one text
abbrev pub invariant-loop-number : goal.invariant-loop-number
invariant-loop-number g l =
    string_bytes l.out ++ lines (λ n. l.letter ++ decimal n) g.N.Line.words l.number-counter (drop l.number-counter l.entries)
    ≡ string_bytes l.initial.out ++ lines (λ n. l.letter ++ decimal n) g.N.Line.words 0 l.entries
