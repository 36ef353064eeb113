use Rattle.std.specs.Int.{w128}
use Rattle.std.proofs.lemmas.Int.{to_z-of_z}
use Rattle.linear.proofs.DivisionLaws.{above_quotients}
use Rattle.linear.proofs.result_ranges.above_range.Goals as goal

pub returns : goal.returns
returns c =
    let f = rw (to_z-of_z w128 c.args.least c.ranges.least) at c.least_quotient.ensures in
    let g = rw (to_z-of_z w128 c.args.least c.ranges.least) at c.greatest_quotient.ensures in
    above_quotients c.args.dividend.least c.args.dividend.greatest c.args.least c.args.greatest c.least_quotient.result c.greatest_quotient.result f g
