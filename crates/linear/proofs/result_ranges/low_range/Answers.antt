use Rattle.std.proofs.Common.{rules, FitsSigned}
use Rattle.std.specs.Int.{w128}
use Rattle.std.proofs.lemmas.Int.{to_z-of_z}
use Rattle.linear.proofs.DivisionLaws.{of_any}
use Rattle.linear.proofs.result_ranges.low_range.Goals as goal

pub returns-then-greatest-lt0 : goal.returns-then-greatest-lt0
returns-then-greatest-lt0 c =
    let f : FitsSigned w128 c.in-Some.greatest = search rules in
    rw c.in-Some.is (rw (to_z-of_z w128 c.in-Some.greatest f) at c.below_range.ensures)

pub returns-else-greatest-lt0 : goal.returns-else-greatest-lt0
returns-else-greatest-lt0 c =
    of_any c.args.dividend.least c.args.dividend.greatest c.args.divisor.least c.args.divisor.greatest c.any_range.result.least c.any_range.result.greatest c.any_range.ensures

pub returns-in-None : goal.returns-in-None
returns-in-None c =
    of_any c.args.dividend.least c.args.dividend.greatest c.args.divisor.least c.args.divisor.greatest c.any_range-in-None.result.least c.any_range-in-None.result.greatest c.any_range-in-None.ensures
