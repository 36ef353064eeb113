use Rattle.std.proofs.Common.{rules, FitsSigned}
use Rattle.std.specs.Int.{w128}
use Rattle.std.proofs.lemmas.Int.{to_z-of_z}
use Rattle.std.proofs.lemmas.Option.{IfSome_then}
use Rattle.linear.specs.Bounded.{numbered}
use Rattle.linear.proofs.QueryLemmas.{least_of_both}
use Rattle.linear.proofs.bounds.least_combined.Goals as goal

pub returns : goal.returns
returns c =
    let fx : FitsSigned w128 c.constant.result = search rules in
    let fy : FitsSigned w128 c.constant-2.result = search rules in
    let fb : FitsSigned w128 c.in_ok-base.base = search rules in
    let ft : FitsSigned w128 c.in_ok-bound.bound = search rules in
    let e = rw (
      to_z-of_z w128 c.args.factor c.ranges.factor,
      to_z-of_z w128 c.args.other_factor c.ranges.other_factor,
      to_z-of_z w128 c.constant.result fx,
      to_z-of_z w128 c.constant-2.result fy,
      c.constant.ensures,
      c.constant-2.ensures,
    ) at c.in_ok-base.ensures in
    let h = rw (to_z-of_z w128 c.args.factor c.ranges.factor, to_z-of_z w128 c.args.other_factor c.ranges.other_factor, c.terms.ensures, c.terms-2.ensures) at c.in_ok-bound.ensures in
    let s = rw (to_z-of_z w128 c.in_ok-base.base fb, to_z-of_z w128 c.in_ok-bound.bound ft) at c.sum.ensures in
    IfSome_then c.sum.result s (λ n k. least_of_both (numbered 0 c.args.bounds.now) c.args.factor c.args.left.now c.args.other_factor c.args.right.now c.in_ok-base.base c.in_ok-bound.bound n e h k)
