use Rattle.std.proofs.Common.{refl}
use Rattle.linear.proofs.RangeLaws.{risen}
use Rattle.linear.proofs.narrowing.range_by.Goals as goal

pub returns-then-coefficient-gt0 : goal.returns-then-coefficient-gt0
returns-then-coefficient-gt0 c =
    risen c.args.bounds.now c.args.expression.now c.in_ok-x.x c.args.symbol c.least_of-least.result c.lower_by.result c.greatest_of-greatest.result (record { least = c.greater-least.result; greatest = c.greatest_of-greatest.result })
    c.in_ok-x.ensures c.least_of-least.ensures c.greatest_of-greatest.ensures c.lower_by.ensures c.greater-least.ensures refl
