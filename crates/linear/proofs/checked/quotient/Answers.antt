use Rattle.std.proofs.Common.{rules, FitsSigned, ◌∙◌}
use Rattle.std.specs.Int.{w128}
use Rattle.std.proofs.lemmas.Int.{to_z-of_z}
use Rattle.linear.proofs.QueryLemmas.{checked_ok}
use Rattle.linear.proofs.checked.quotient.Goals as goal

pub returns-in-Ok : goal.returns-in-Ok
returns-in-Ok c =
    let f : FitsSigned w128 c.in-Ok.number = search rules in
    let h = rw (to_z-of_z w128 c.args.dividend c.ranges.dividend, to_z-of_z w128 c.args.divisor c.ranges.divisor) at c.in-Ok.ensures in
    to_z-of_z w128 c.in-Ok.number f ∙ checked_ok _ _ h
