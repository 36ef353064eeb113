use Rattle.next_lines.specs.Lines.{warning_line}
use Rattle.next_lines.specs.Seen.{seen_warning}
use Rattle.places.proofs.PieceLaws.{piece_more}
use Rattle.next_lines.proofs.lines.put_warnings.Goals as goal

pub loop-warning-preserved : goal.loop-warning-preserved
loop-warning-preserved c =
    piece_more (λ w. warning_line (seen_warning w)) c.args.warned.now c.loop-warning.warning-index c.warning-item.result c.args.out.now.items c.loop-warning.out.items c.put_warning.new.out.items c.loop-warning-test.true c.warning-item.is c.loop-warning.invariant c.in_ok-put_warning.ensures
