use Rattle.std.proofs.Common.{rules, FitsSigned}
use Rattle.std.specs.Int.{w128}
use Rattle.std.proofs.lemmas.Int.{to_z-of_z}
use Rattle.linear.proofs.DivisionLaws.{turned_some}
use Rattle.linear.proofs.result_ranges.turned.Goals as goal

pub returns : goal.returns
returns c =
    let f : FitsSigned w128 c.in_ok-number.number = search rules in
    let h = rw (to_z-of_z w128 c.in_ok-number.number f) at c.negation.ensures in
    rw c.in_ok-number.was (turned_some c.in_ok-number.number c.negation.result h)
