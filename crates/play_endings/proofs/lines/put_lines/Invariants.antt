use Rattle.std.proofs.Common.{◌≡◌, ◌++◌, drop, string_bytes}
use Rattle.play_endings.specs.EndingLines.{ending_lines}
use Rattle.play_endings.proofs.lines.put_lines.Given as goal

abbrev pub invariant-loop-place : goal.invariant-loop-place
invariant-loop-place l =
    string_bytes l.out ++ ending_lines l.spelling l.plan l.threads l.contracts l.intents l.place (drop l.place l.ended)
    ≡ string_bytes l.fn.out ++ ending_lines l.spelling l.plan l.threads l.contracts l.intents 0 l.ended
