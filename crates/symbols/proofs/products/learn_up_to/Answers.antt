use Rattle.std.proofs.Common.{rules, FitsSigned}
use Rattle.std.specs.Int.{w128}
use Rattle.std.proofs.lemmas.Int.{to_z-of_z}
use Rattle.std.proofs.lemmas.Result.{on_ok_weaker}
use Rattle.symbols.proofs.ProductLemmas.{up_to_none, up_to_sum}
use Rattle.symbols.proofs.products.learn_up_to.Goals as goal

pub returns-in-Some : goal.returns-in-Some
returns-in-Some c =
    let f : FitsSigned w128 c.in-Some.greatest = search rules in
    let h = rw (to_z-of_z w128 c.in-Some.greatest f) at c.put_sum.ensures in
    rw c.in-Some.is (on_ok_weaker c.put_sum.result (λ g. up_to_sum c.args.symbols.now c.put_sum.new.symbols c.args.expression.now c.args.factor.now c.in-Some.greatest g) h)

pub returns-in-None : goal.returns-in-None
returns-in-None c = up_to_none c.args.symbols.now c.args.expression.now c.args.factor.now _
