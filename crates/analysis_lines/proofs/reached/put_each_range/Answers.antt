use Rattle.std.proofs.Common.{sym, subst}
use Rattle.std.proofs.lemmas.List.Elements.{All-get_or}
use Rattle.bound_runs.specs.Told.{RangeHasNumbers}
use Rattle.analysis_lines.specs.Lines.{range_runs}
use Rattle.places.proofs.PieceLaws.{piece_more}
use Rattle.analysis_lines.proofs.reached.put_each_range.Goals as goal

pub loop-range-preserved : goal.loop-range-preserved
loop-range-preserved c =
    piece_more range_runs c.args.ranges.now c.loop-range.range-index c.range-item.result c.args.out.now.items c.loop-range.out.items c.put_range_runs.new.out.items c.loop-range-test.true c.range-item.is c.loop-range.invariant c.in_ok-put_range_runs.ensures

pub put_range_runs-requires : goal.put_range_runs-requires
put_range_runs-requires c = subst RangeHasNumbers (sym c.range-item.is) (All-get_or RangeHasNumbers c.args.ranges.now c.loop-range.range-index c.range-item.result c.loop-range-test.true c.requires)
