use Rattle.std.proofs.Common.{◌≡◌, ◌++◌, take}
use Rattle.std.specs.Prelude.{flat_map}
use Rattle.analysis_lines.specs.Lines.{loss_line}
use Rattle.analysis_lines.proofs.lines.put_each_loss.Given as goal

abbrev pub invariant-loop-loss : goal.invariant-loop-loss
invariant-loop-loss l = l.out.items ≡ l.fn.out.items ++ flat_map (loss_line l.given) (take l.loss-index l.losses)
