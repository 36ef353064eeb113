use Rattle.std.proofs.Common.{rules, FitsSigned}
use Rattle.std.specs.Int.{w128}
use Rattle.std.proofs.lemmas.Int.{to_z-of_z}
use Rattle.linear.proofs.ResultRangeLemmas.{corners_range}
use Rattle.linear.proofs.result_ranges.product_range.Goals as goal

pub returns-in-Some : goal.returns-in-Some
returns-in-Some c =
    let fa : FitsSigned w128 c.in-Some-Some-Some-Some.a = search rules in
    let fb : FitsSigned w128 c.in-Some-Some-Some-Some.b = search rules in
    let fc : FitsSigned w128 c.in-Some-Some-Some-Some.c = search rules in
    let fd : FitsSigned w128 c.in-Some-Some-Some-Some.d = search rules in
    let fl : FitsSigned w128 c.in-Some.low = search rules in
    let fh : FitsSigned w128 c.in-Some.high = search rules in
    let h = rw (
      to_z-of_z w128 c.in-Some-Some-Some-Some.a fa,
      to_z-of_z w128 c.in-Some-Some-Some-Some.b fb,
      to_z-of_z w128 c.in-Some-Some-Some-Some.c fc,
      to_z-of_z w128 c.in-Some-Some-Some-Some.d
          fd,
    ) at c.in-Some.ensures in
    rw (c.in-Some-Some-Some-Some.is-0, c.in-Some-Some-Some-Some.is-1, c.in-Some-Some-Some-Some.is-2, c.in-Some-Some-Some-Some.is-3, to_z-of_z w128 c.in-Some.low fl, to_z-of_z w128 c.in-Some.high fh)
    (corners_range c.in-Some-Some-Some-Some.a c.in-Some-Some-Some-Some.b c.in-Some-Some-Some-Some.c c.in-Some-Some-Some-Some.d c.in-Some.low c.in-Some.high h)
