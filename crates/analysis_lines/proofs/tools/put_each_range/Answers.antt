use Rattle.std.proofs.Common.{refl, sym, subst}
use Rattle.std.proofs.lemmas.List.Elements.{All-get_or}
use Rattle.bound_runs.specs.Told.{RangeHasNumbers}
use Rattle.json_write_contracts.proofs.AddsLaws.{wrote}
use Rattle.json_write_contracts.proofs.ListedLaws.{listed, closed}
use Rattle.analysis_lines.specs.Tools.{range_json}
use Rattle.analysis_lines.proofs.tools.put_each_range.Goals as goal

pub loop-range-preserved : goal.loop-range-preserved
loop-range-preserved c =
    listed (range_json c.args.runs) c.args.ranges.now c.loop-range.range-index c.range-item.result c.begin_array.new.self c.loop-range.out c.put_range.new.out c.loop-range-test.true c.range-item.is c.loop-range.invariant c.in_ok-put_range.ensures

pub returns : goal.returns
returns c =
    closed (range_json c.args.runs) c.args.ranges.now c.args.ranges.now c.loop-range.range-index c.args.out.now c.begin_array.new.self c.loop-range.out c.end_array.new.self refl c.loop-range-test.false (wrote c.in_ok-begin_array.ensures)
    c.loop-range.invariant (wrote c.in_ok-end_array.ensures)

pub put_range-requires : goal.put_range-requires
put_range-requires c = subst RangeHasNumbers (sym c.range-item.is) (All-get_or RangeHasNumbers c.args.ranges.now c.loop-range.range-index c.range-item.result c.loop-range-test.true c.requires)
