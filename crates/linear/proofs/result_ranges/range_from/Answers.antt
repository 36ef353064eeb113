use Rattle.std.proofs.Common.{◌≡◌, pos, Some, sym, subst, arith}
use Rattle.std.specs.Int.{w128}
use Rattle.std.proofs.lemmas.Int.{ints, to_z-of_z}
use Rattle.linear.specs.ResultRanges.{IsQuotientRange}
use Rattle.linear.proofs.DivisionLaws.{fewer_divisors}
use Rattle.linear.proofs.result_ranges.range_from.Goals as goal

pub returns-then-least-gt0 : goal.returns-then-least-gt0
returns-then-least-gt0 c = rw (to_z-of_z w128 c.args.least c.ranges.least) at c.above_range.ensures

pub returns-then-least-eq0 : goal.returns-then-least-eq0
returns-then-least-eq0 c =
    let a = c.args.dividend.least in
    let b = c.args.dividend.greatest in
    let d = c.args.divisor.greatest in
    let o = c.natural_range.result in
    let z : c.args.least ≡ pos 0 = omega (arith, ints) in
    subst (λ n. IsQuotientRange a b (Some n) d o.least o.greatest) (sym z) (fewer_divisors a b (Some (pos 0)) d o.least o.greatest c.natural_range.ensures)

pub returns : goal.returns
returns c = rw (to_z-of_z w128 c.args.least c.ranges.least) at c.low_range.ensures
