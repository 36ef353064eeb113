use Rattle.std.specs.Int.{w128}
use Rattle.std.proofs.lemmas.Int.{to_z-of_z}
use Rattle.std.proofs.lemmas.Result.{on_ok_weaker}
use Rattle.symbols.proofs.ProductLemmas.{sum_none, sum_learned}
use Rattle.symbols.proofs.products.put_sum.Goals as goal

pub returns-in-Some : goal.returns-in-Some
returns-in-Some c =
    let s = rw (c.in-Some.is, to_z-of_z w128 c.args.times c.ranges.times, to_z-of_z w128 c.args.other c.ranges.other) at c.in_ok-sum.ensures in
    on_ok_weaker c.put.result (λ h. sum_learned c.args.symbols.now c.put.new.self c.args.expression.now c.args.factor.now c.in-Some.fact c.args.times c.args.other s h) c.put.ensures

pub returns-in-None : goal.returns-in-None
returns-in-None c = sum_none c.args.symbols.now c.args.times c.args.expression.now c.args.other c.args.factor.now
