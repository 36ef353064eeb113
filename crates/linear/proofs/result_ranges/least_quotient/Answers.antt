use Rattle.std.proofs.Common.{rules, FitsSigned, arith}
use Rattle.std.specs.Int.{w128}
use Rattle.std.proofs.lemmas.Int.{ints, to_z-of_z}
use Rattle.linear.proofs.DivisionLaws.{least_of_opposite, least_of_natural}
use Rattle.linear.proofs.result_ranges.least_quotient.Goals as goal

pub returns-then-from-lt0 : goal.returns-then-from-lt0
returns-then-from-lt0 c =
    let f : FitsSigned w128 c.in_ok-from.from = search rules in
    let h = rw (to_z-of_z w128 c.in_ok-from.from f, to_z-of_z w128 c.args.least c.ranges.least) at c.quotient.ensures in
    rw c.in_ok-from.was (least_of_opposite c.in_ok-from.from c.args.least c.args.greatest c.quotient.result (omega (arith, ints)) c.requires h)

pub returns-else-from-lt0 : goal.returns-else-from-lt0
returns-else-from-lt0 c =
    let f : FitsSigned w128 c.in_ok-from.from = search rules in
    let h = rw (to_z-of_z w128 c.in_ok-from.from f) at c.by_greatest.ensures in
    rw c.in_ok-from.was (least_of_natural c.in_ok-from.from c.args.least c.args.greatest c.by_greatest.result (omega (arith, ints)) c.requires h)
