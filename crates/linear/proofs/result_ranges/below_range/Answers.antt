use Rattle.std.proofs.Common.{rules, FitsSigned, arith, Some}
use Rattle.std.specs.Int.{w128}
use Rattle.std.proofs.lemmas.Int.{ints, to_z-of_z}
use Rattle.linear.proofs.DivisionLaws.{below_quotients, of_any}
use Rattle.linear.proofs.result_ranges.below_range.Goals as goal

pub above_range-range-requires : goal.above_range-range-requires
above_range-range-requires c =
    let u = rw (to_z-of_z w128 c.args.greatest c.ranges.greatest) at c.in-Some.ensures in
    omega (arith, ints, u, c.requires)

pub returns-in-Some : goal.returns-in-Some
returns-in-Some c =
    let f : FitsSigned w128 c.in-Some.opposite = search rules in
    let u = rw (to_z-of_z w128 c.args.greatest c.ranges.greatest) at c.in-Some.ensures in
    let q = rw (to_z-of_z w128 c.in-Some.opposite f) at c.above_range-range.ensures in
    below_quotients c.args.dividend.least c.args.dividend.greatest c.args.least c.args.greatest c.in-Some.opposite c.turned.result c.above_range-range.result.least c.above_range-range.result.greatest
    c.turned-in-Some.result
    c.turned-in-Some-2.result u c.turned.ensures q c.turned-in-Some.ensures c.turned-in-Some-2.ensures

pub returns-in-None : goal.returns-in-None
returns-in-None c = of_any c.args.dividend.least c.args.dividend.greatest c.args.least (Some c.args.greatest) c.any_range.result.least c.any_range.result.greatest c.any_range.ensures
