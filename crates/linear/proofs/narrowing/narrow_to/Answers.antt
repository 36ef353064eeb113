use Rattle.linear.proofs.RangeLaws.{within_by}
use Rattle.linear.proofs.narrowing.narrow_to.Goals as goal

pub returns : goal.returns
returns c =
    within_by c.args.bounds.now c.put.new.self c.args.symbol (record { least = c.greater-least.result; greatest = c.lesser-greatest.result }) c.least_of.result c.args.range.least c.greatest_of.result c.args.range.greatest
    c.least_of.ensures c.greatest_of.ensures c.greater-least.ensures c.lesser-greatest.ensures c.in_ok-put.ensures
