use Rattle.std.proofs.Common.{rules, FitsSigned, refl}
use Rattle.std.specs.Int.{w128}
use Rattle.std.proofs.lemmas.Int.{to_z-of_z}
use Rattle.linear.proofs.result_ranges.by_greatest.Goals as goal

pub returns-in-Some : goal.returns-in-Some
returns-in-Some c =
    let f : FitsSigned w128 c.in-Some.divisor = search rules in
    rw c.in-Some.is (rw (to_z-of_z w128 c.args.number c.ranges.number, to_z-of_z w128 c.in-Some.divisor f) at c.quotient.ensures)

pub returns-in-None : goal.returns-in-None
returns-in-None c = rw c.in-None.is refl
