use Rattle.std.proofs.Common.{rules, FitsSigned}
use Rattle.std.specs.Int.{w128}
use Rattle.std.proofs.lemmas.Int.{to_z-of_z}
use Rattle.symbols.proofs.QuotientLemmas.{by_numbers}
use Rattle.symbols.proofs.quotients.number_quotient.Goals as goal

pub returns : goal.returns
returns c =
    let f : FitsSigned w128 c.constant.result = search rules in
    let g : FitsSigned w128 c.in_ok-q.q = search rules in
    let e = rw (to_z-of_z w128 c.constant.result f, to_z-of_z w128 c.args.divisor c.ranges.divisor) at c.in_ok-q.ensures in
    let h = rw (to_z-of_z w128 c.in_ok-q.q g) at c.number.ensures in
    by_numbers c.args.dividend.now c.number.result c.constant.result c.args.divisor c.in_ok-q.q (c.is_number-number.ensures c.if-not-number.false) c.constant.ensures e h
