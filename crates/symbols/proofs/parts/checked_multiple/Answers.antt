use Rattle.std.specs.Int.{w128}
use Rattle.std.proofs.lemmas.Int.{to_z-of_z}
use Rattle.symbols.proofs.PartLemmas.{multiple_by}
use Rattle.symbols.proofs.parts.checked_multiple.Goals as goal

pub returns-then-is : goal.returns-then-is
returns-then-is c =
    let h = rw (to_z-of_z w128 c.args.opposite c.ranges.opposite) at c.in_ok-is.ensures in
    rw (to_z-of_z w128 c.args.coefficient c.ranges.coefficient)
    (multiple_by c.args.count c.args.expression.now c.in_ok-symbol.symbol c.args.name c.args.coefficient c.args.opposite c.requires.below c.in_ok-symbol.ensures c.requires.opposite (h c.if-is.true))
