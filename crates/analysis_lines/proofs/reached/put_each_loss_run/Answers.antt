use Rattle.std.proofs.Common.{sym, subst}
use Rattle.std.proofs.lemmas.List.Elements.{All-get_or}
use Rattle.bound_runs.specs.Told.{LossHasNumbers}
use Rattle.analysis_lines.specs.Lines.{loss_runs}
use Rattle.places.proofs.PieceLaws.{piece_more}
use Rattle.analysis_lines.proofs.reached.put_each_loss_run.Goals as goal

pub loop-loss-preserved : goal.loop-loss-preserved
loop-loss-preserved c =
    piece_more loss_runs c.args.losses.now c.loop-loss.loss-index c.loss-item.result c.args.out.now.items c.loop-loss.out.items c.put_loss_run.new.out.items c.loop-loss-test.true c.loss-item.is c.loop-loss.invariant c.in_ok-put_loss_run.ensures

pub put_loss_run-requires : goal.put_loss_run-requires
put_loss_run-requires c = subst LossHasNumbers (sym c.loss-item.is) (All-get_or LossHasNumbers c.args.losses.now c.loop-loss.loss-index c.loss-item.result c.loop-loss-test.true c.requires)
