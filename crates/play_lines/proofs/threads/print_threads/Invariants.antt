use Rattle.std.proofs.Common.{◌≡◌, ◌++◌, drop, string_bytes}
use Rattle.play_lines.specs.PlayLines.{thread_lines}
use Rattle.play_lines.proofs.threads.print_threads.Given as goal

-- what was printed and the lines that are left are one text
abbrev pub invariant-loop-thread : goal.invariant-loop-thread
invariant-loop-thread l =
    string_bytes l.out ++ thread_lines (drop l.thread-index l.threads) ≡ string_bytes l.initial.out ++ thread_lines l.threads
