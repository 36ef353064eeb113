use Rattle.std.proofs.Common.{rules, ◌≡◌, ◌+ℤ◌, ℤ, FitsSigned, to_z, of_z, subst, arith}
use Rattle.std.specs.Int.{w128}
use Rattle.std.proofs.lemmas.Int.{ints, to_z-of_z}
use Rattle.linear.specs.Bounded.{numbered}
use Rattle.linear.proofs.QueryLemmas.{IsBounding, bounding_on}
use Rattle.linear.proofs.bounds.least_terms.Goals as goal

pub loop-preserved : goal.loop-preserved
loop-preserved c =
    let fc : FitsSigned w128 c.in_ok-coefficient-in-Some.coefficient = search rules in
    let fb : FitsSigned w128 c.in_ok-bound-in-Some.bound = search rules in
    let ft : FitsSigned w128 c.in_ok-total-in-Some.total = search rules in
    let b = rw (to_z-of_z w128 c.in_ok-coefficient-in-Some.coefficient fc) at c.in_ok-bound-in-Some.ensures in
    let e : c.in_ok-total-in-Some.total ≡ c.loop.total +ℤ c.in_ok-bound-in-Some.bound = omega (arith, ints, c.in_ok-total-in-Some.ensures, c.loop.total-is) in
    let i : to_z w128 c.loop.total-bits ≡ c.loop.total = omega (arith, ints, c.loop.total-is) in
    let v = subst (λ (z : ℤ). IsBounding (numbered 0 c.args.bounds.now) (to_z w128 (of_z w128 c.args.factor)) c.args.left.now c.loop.i (to_z w128 (of_z w128 c.args.other_factor)) c.args.right.now c.loop.j z) i
    c.loop.invariant in
    rw (to_z-of_z w128 c.in_ok-total-in-Some.total ft)
    (bounding_on _ _ _ _ _ _ _ c.loop.total c.in_ok-bound-in-Some.bound c.in_ok-total-in-Some.total c.in-Some.symbol
    (c.in_ok-coefficient-in-Some.coefficient, c.in_ok-coefficient-in-Some.k, c.in_ok-coefficient-in-Some.l) v
    c.in_ok-coefficient-in-Some.ensures b e)
