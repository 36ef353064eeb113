use Rattle.analysis_lines.specs.Lines.{range_line}
use Rattle.places.proofs.PieceLaws.{piece_more}
use Rattle.analysis_lines.proofs.lines.put_ranges.Goals as goal

pub loop-range-preserved : goal.loop-range-preserved
loop-range-preserved c =
    piece_more range_line c.args.ranges.now c.loop-range.range-index c.range-item.result c.args.out.now.items c.loop-range.out.items c.put_range.new.out.items c.loop-range-test.true c.range-item.is c.loop-range.invariant c.in_ok-put_range.ensures
