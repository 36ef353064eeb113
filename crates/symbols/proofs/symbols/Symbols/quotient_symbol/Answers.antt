use Rattle.std.specs.Int.{w128}
use Rattle.std.proofs.lemmas.Int.{to_z-of_z}
use Rattle.symbols.proofs.QuotientLemmas.{by_learned}
use Rattle.symbols.proofs.symbols.Symbols.quotient_symbol.Goals as goal

pub returns : goal.returns
returns c =
    let q = rw (to_z-of_z w128 c.args.divisor c.ranges.divisor) at c.number-d.ensures in
    let i = rw (to_z-of_z w128 c.args.divisor c.ranges.divisor) at c.in_ok-learn_quotient.ensures in
    by_learned c.args.self.now c.numbered_quotient.new.self c.learn_quotient.new.symbols c.args.dividend.now c.number-d.result c.in_ok-e.e c.args.divisor q c.in_ok-e.ensures i
