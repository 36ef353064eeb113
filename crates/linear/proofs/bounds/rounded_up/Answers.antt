use Rattle.std.proofs.Common.{rules, ◌-ℤ◌, pos, FitsSigned, arith}
use Rattle.std.specs.Int.{w128}
use Rattle.std.proofs.lemmas.Int.{ints, to_z-of_z}
use Rattle.std.proofs.lemmas.Option.{IfSome_then}
use Rattle.linear.proofs.QueryLemmas.{rounded_above, rounded_below}
use Rattle.linear.proofs.bounds.rounded_up.Goals as goal

pub returns-in_ok-down : goal.returns-in_ok-down
returns-in_ok-down c =
    let f : FitsSigned w128 c.in_ok-down.down = search rules in
    let g : FitsSigned w128 (c.args.number -ℤ pos 1) = search rules in
    let e = rw (to_z-of_z w128 c.args.number c.ranges.number, to_z-of_z w128 (c.args.number -ℤ pos 1) g, to_z-of_z w128 c.args.divisor c.ranges.divisor) at c.in_ok-down.ensures in
    let h = rw (to_z-of_z w128 c.in_ok-down.down f) at c.sum.ensures in
    IfSome_then c.sum.result h (λ z k. rounded_above c.args.number c.args.divisor c.in_ok-down.down z c.requires (omega (arith, ints)) e k)

pub returns-else-number-gt0 : goal.returns-else-number-gt0
returns-else-number-gt0 c =
    let h = rw (to_z-of_z w128 c.args.number c.ranges.number, to_z-of_z w128 c.args.divisor c.ranges.divisor) at c.quotient-else-number-gt0.ensures in
    IfSome_then c.quotient-else-number-gt0.result h (λ z k. rounded_below c.args.number c.args.divisor z c.requires (omega (arith, ints)) k)
