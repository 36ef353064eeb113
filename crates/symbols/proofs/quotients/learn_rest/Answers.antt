use Rattle.std.specs.Int.{w128}
use Rattle.std.proofs.lemmas.Int.{to_z-of_z}
use Rattle.symbols.proofs.QuotientLemmas.{rest_then}
use Rattle.symbols.proofs.quotients.learn_rest.Goals as goal

pub returns : goal.returns
returns c =
    let h = rw (to_z-of_z w128 c.args.divisor c.ranges.divisor) at c.in_ok-learn_low.ensures in
    let i = rw (to_z-of_z w128 c.args.divisor c.ranges.divisor) at c.in_ok-learn_high.ensures in
    rest_then c.args.symbols.now c.learn_low.new.symbols c.learn_high.new.symbols c.args.dividend.now c.args.rest.now c.args.divisor h i
