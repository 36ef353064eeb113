use Rattle.std.proofs.Common.{take, map}
use Rattle.json_write_contracts.specs.Tokens.{Adds}
use Rattle.json_write_contracts.proofs.ListedLaws.{front}
use Rattle.analysis_lines.specs.Tools.{loss_json}
use Rattle.analysis_lines.proofs.tools.put_each_loss.Given as goal

-- the items so far are written
abbrev pub invariant-loop-loss : goal.invariant-loop-loss
invariant-loop-loss l = Adds l.initial.out l.out (front (map (loss_json l.runs) (take l.loss-index l.losses)))
