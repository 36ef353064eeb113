use Rattle.std.proofs.Common.{rules, FitsSigned, Some}
use Rattle.std.specs.Int.{w128}
use Rattle.std.proofs.lemmas.Int.{to_z-of_z}
use Rattle.std.proofs.lemmas.Result.{on_ok_weaker}
use Rattle.symbols.proofs.ProductLemmas.{from_none, from_sum}
use Rattle.symbols.proofs.products.learn_more.Goals as goal

pub returns-in-Some : goal.returns-in-Some
returns-in-Some c =
    let f : FitsSigned w128 c.in-Some.less = search rules in
    let q = rw (to_z-of_z w128 c.args.times c.ranges.times) at c.in-Some.ensures in
    let h = rw (to_z-of_z w128 c.in-Some.less f) at c.put_sum.ensures in
    on_ok_weaker c.put_sum.result (λ g. from_sum c.args.symbols.now c.put_sum.new.symbols c.args.expression.now c.args.factor.now c.in-Some.less c.args.times q g) h

pub returns-in-None : goal.returns-in-None
returns-in-None c = from_none c.args.symbols.now c.args.expression.now c.args.factor.now (Some c.args.times)
