use Rattle.std.proofs.Common.{rules, ◌≡◌, ◌-ℤ◌, neg_ℤ, pos, FitsSigned, arith}
use Rattle.std.specs.Int.{w128}
use Rattle.std.proofs.lemmas.Int.{ints, to_z-of_z}
use Rattle.std.proofs.lemmas.Result.{on_ok_weaker}
use Rattle.symbols.proofs.QuotientLemmas.{quotient_unlearned, quotient_learned}
use Rattle.symbols.proofs.quotients.learn_quotient.Goals as goal

pub returns-then-divisor-le0 : goal.returns-then-divisor-le0
returns-then-divisor-le0 c = quotient_unlearned c.args.symbols.now c.args.dividend.now c.args.quotient.now c.args.divisor

pub returns-in-None : goal.returns-in-None
returns-in-None c = quotient_unlearned c.args.symbols.now c.args.dividend.now c.args.quotient.now c.args.divisor

pub returns-in-Some : goal.returns-in-Some
returns-in-Some c =
    let g : FitsSigned w128 (pos 0 -ℤ c.args.divisor) = search rules in
    let n : pos 0 -ℤ c.args.divisor ≡ neg_ℤ c.args.divisor = omega (arith, ints) in
    let s = rw (c.in-Some.is, to_z-of_z w128 c.args.divisor c.ranges.divisor, to_z-of_z w128 (pos 0 -ℤ c.args.divisor) g, n) at c.in_ok-rest.ensures in
    let h = rw (to_z-of_z w128 c.args.divisor c.ranges.divisor) at c.learn_rest.ensures in
    on_ok_weaker c.learn_rest.result (λ i. quotient_learned c.args.symbols.now c.learn_rest.new.symbols c.args.dividend.now c.args.quotient.now c.in-Some.left c.args.divisor s i) h
