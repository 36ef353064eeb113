use Rattle.analysis_lines.specs.Lines.{loss_line}
use Rattle.places.proofs.PieceLaws.{piece_more}
use Rattle.analysis_lines.proofs.lines.put_each_loss.Goals as goal

pub loop-loss-preserved : goal.loop-loss-preserved
loop-loss-preserved c =
    piece_more (loss_line c.args.given) c.args.losses.now c.loop-loss.loss-index c.loss-item.result c.args.out.now.items c.loop-loss.out.items c.put_loss.new.out.items c.loop-loss-test.true c.loss-item.is c.loop-loss.invariant c.in_ok-put_loss.ensures
