use Rattle.std.proofs.Common.{◌≡◌, ◌++◌, drop, string_bytes}
use Rattle.play_holdings.specs.HoldingLines.{holding_lines}
use Rattle.play_holdings.proofs.lines.holding_lines.Given as goal

-- what was printed and the lines that are left are one text
abbrev pub invariant-loop-holding : goal.invariant-loop-holding
invariant-loop-holding l = string_bytes l.out ++ holding_lines l.threads (drop l.holding-index l.holdings) ≡ holding_lines l.threads l.holdings
