use Rattle.std.proofs.Common.{rules, FitsSigned}
use Rattle.std.specs.Int.{w128}
use Rattle.std.proofs.lemmas.Int.{to_z-of_z}
use Rattle.linear.proofs.QueryLemmas.{stands_combined}
use Rattle.linear.proofs.linear.Linear.combine.Goals as goal

pub returns-in_ok-terms-in-Some-2 : goal.returns-in_ok-terms-in-Some-2
returns-in_ok-terms-in-Some-2 c =
    let fx : FitsSigned w128 c.constant.result = search rules in
    let fy : FitsSigned w128 c.constant-2.result = search rules in
    let fb : FitsSigned w128 c.in-Some.base = search rules in
    let e = rw (
      to_z-of_z w128 c.args.factor c.ranges.factor,
      to_z-of_z w128 c.args.other_factor c.ranges.other_factor,
      to_z-of_z w128 c.constant.result fx,
      to_z-of_z w128 c.constant-2.result fy,
      c.constant.ensures,
      c.constant-2.ensures,
    ) at c.in-Some.ensures in
    let h = rw (c.in-Some-2.is, to_z-of_z w128 c.args.factor c.ranges.factor, to_z-of_z w128 c.args.other_factor c.ranges.other_factor, c.terms.ensures, c.terms-2.ensures) at c.in_ok-out.ensures in
    rw (to_z-of_z w128 c.in-Some.base fb, c.in_ok-terms-in-Some-2.ensures) (stands_combined c.args.factor c.args.self.now c.args.other_factor c.args.other.now c.in-Some.base c.in-Some-2.out.items e h)
