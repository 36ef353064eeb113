use Rattle.std.proofs.Common.{rules, FitsSigned}
use Rattle.std.specs.Int.{w128}
use Rattle.std.proofs.lemmas.Int.{to_z-of_z}
use Rattle.symbols.proofs.ProductLemmas.{from_none}
use Rattle.symbols.proofs.products.learn_from.Goals as goal

pub returns-in-Some : goal.returns-in-Some
returns-in-Some c =
    let f : FitsSigned w128 c.in-Some.least = search rules in
    rw c.in-Some.is (rw (to_z-of_z w128 c.in-Some.least f) at c.learn_more.ensures)

pub returns-in-None : goal.returns-in-None
returns-in-None c = from_none c.args.symbols.now c.args.expression.now c.args.factor.now _
