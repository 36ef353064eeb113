use Rattle.std.proofs.Common.{◌≡◌, ◌++◌, drop, string_bytes}
use Rattle.play_lines.specs.PlayLines.{entry_lines}
use Rattle.play_lines.proofs.entries.print_entries.Given as goal

-- what was printed and the lines that are left are one text
abbrev pub invariant-loop-number : goal.invariant-loop-number
invariant-loop-number l =
    string_bytes l.out ++ entry_lines l.number (drop l.number l.entries) ≡ string_bytes l.initial.out ++ entry_lines 0 l.entries
