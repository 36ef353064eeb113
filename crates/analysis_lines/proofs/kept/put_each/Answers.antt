use Rattle.analysis_lines.specs.Kept.{kept_line}
use Rattle.places.proofs.PieceLaws.{piece_more}
use Rattle.analysis_lines.proofs.kept.put_each.Goals as goal

pub loop-one-preserved : goal.loop-one-preserved
loop-one-preserved c =
    piece_more (kept_line c.args.given c.args.party.now) c.args.kept.now c.loop-one.one-index c.one-item.result c.args.out.now.items c.loop-one.out.items c.put_line.new.out.items c.loop-one-test.true c.one-item.is c.loop-one.invariant c.in_ok-put_line.ensures
