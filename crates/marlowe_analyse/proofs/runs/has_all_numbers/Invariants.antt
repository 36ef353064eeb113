use Rattle.std.proofs.Common.{take}
use Rattle.analysis_lines.specs.ToldLines.{RunFits}
use Rattle.marlowe_analyse.proofs.runs.has_all_numbers.Given as goal

abbrev pub invariant-loop-transaction : goal.invariant-loop-transaction
invariant-loop-transaction l = RunFits (take l.transaction-index l.run)
