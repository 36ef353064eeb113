use Rattle.std.proofs.Common.{rules, FitsSigned, arith}
use Rattle.std.specs.Int.{w128}
use Rattle.std.proofs.lemmas.Int.{ints, to_z-of_z}
use Rattle.linear.proofs.DivisionLaws.{greatest_of_opposite, greatest_of_natural}
use Rattle.linear.proofs.result_ranges.greatest_quotient.Goals as goal

pub returns-then-up_to-lt0 : goal.returns-then-up_to-lt0
returns-then-up_to-lt0 c =
    let f : FitsSigned w128 c.in_ok-up_to.up_to = search rules in
    let h = rw (to_z-of_z w128 c.in_ok-up_to.up_to f) at c.by_greatest.ensures in
    rw c.in_ok-up_to.was (greatest_of_opposite c.in_ok-up_to.up_to c.args.least c.args.greatest c.by_greatest.result (omega (arith, ints)) c.requires h)

pub returns-else-up_to-lt0 : goal.returns-else-up_to-lt0
returns-else-up_to-lt0 c =
    let f : FitsSigned w128 c.in_ok-up_to.up_to = search rules in
    let h = rw (to_z-of_z w128 c.in_ok-up_to.up_to f, to_z-of_z w128 c.args.least c.ranges.least) at c.quotient.ensures in
    rw c.in_ok-up_to.was (greatest_of_natural c.in_ok-up_to.up_to c.args.least c.args.greatest c.quotient.result (omega (arith, ints)) c.requires h)
