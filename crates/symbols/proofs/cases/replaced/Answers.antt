use Rattle.std.specs.Int.{w128}
use Rattle.std.proofs.lemmas.Int.{to_z-of_z}
use Rattle.linear.proofs.LinearLaws.{both_weaker}
use Rattle.symbols.proofs.CaseLemmas.{replaced_by}
use Rattle.symbols.proofs.cases.replaced.Goals as goal

pub returns-in-Some : goal.returns-in-Some
returns-in-Some c =
    let less = rw c.in-Some.is at c.in_ok-difference.ensures in
    let h = rw (to_z-of_z w128 c.args.coefficient c.ranges.coefficient) at c.combine.ensures in
    both_weaker c.combine.result _ _ (λ e more. replaced_by c.args.expression.now c.args.number.now c.in_ok-name.name c.in-Some.more e c.args.symbol c.args.coefficient c.in_ok-name.ensures less more) h
