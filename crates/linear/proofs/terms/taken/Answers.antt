use Rattle.std.proofs.Common.{rules, ◌*ℤ◌, pos, FitsSigned, ap, ◌∙◌, arith}
use Rattle.std.specs.Int.{w128}
use Rattle.std.proofs.lemmas.Int.{to_z-of_z}
use Rattle.linear.proofs.WalkLemmas.{taken_first}
use Rattle.linear.proofs.terms.taken.Goals as goal

pub returns-in_ok-coefficient : goal.returns-in_ok-coefficient
returns-in_ok-coefficient c =
    let f : FitsSigned w128 c.in_ok-coefficient.coefficient = search rules in
    let g : FitsSigned w128 c.number_of.result = search rules in
    let h = rw (to_z-of_z w128 c.args.factor c.ranges.factor, to_z-of_z w128 c.number_of.result g) at c.in_ok-coefficient.ensures in
    rw (to_z-of_z w128 c.in_ok-coefficient.coefficient f)
    (taken_first c.args.factor c.in_ok-coefficient.coefficient c.args.terms.now c.args.at c.args.symbol (0, pos 0) (omega arith) c.if-terms-at.true
    (h ∙ ap (λ z. c.args.factor *ℤ z) c.number_of.ensures))
