use Rattle.symbols.proofs.WithinLemmas.{hold_result}
use Rattle.symbols.proofs.within.put_result.Goals as goal

pub returns : goal.returns
returns c =
    hold_result c.args.bounds.now c.narrow_to.new.bounds c.args.operation.now c.range_of-left.result c.range_of-right.result c.result_range-range.result
    (c.range_of-left.ensures.least, c.range_of-left.ensures.greatest) (c.range_of-right.ensures.least, c.range_of-right.ensures.greatest) c.result_range-range.ensures c.in_ok-narrow_to.ensures
