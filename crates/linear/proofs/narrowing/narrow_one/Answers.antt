use Rattle.linear.proofs.RangeLaws.{narrowed_by}
use Rattle.linear.proofs.narrowing.narrow_one.Goals as goal

pub returns : goal.returns
returns c = narrowed_by c.args.bounds.now c.put.new.self c.args.expression.now c.args.symbol c.in_ok-range.range c.in_ok-range.ensures c.in_ok-put.ensures
