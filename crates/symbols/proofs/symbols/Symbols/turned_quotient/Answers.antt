use Rattle.std.specs.Int.{w128}
use Rattle.std.proofs.lemmas.Int.{to_z-of_z}
use Rattle.symbols.proofs.QuotientLemmas.{by_turned}
use Rattle.symbols.proofs.symbols.Symbols.turned_quotient.Goals as goal

pub returns : goal.returns
returns c =
    let h = rw (to_z-of_z w128 c.args.opposite c.ranges.opposite) at c.in_ok-up.ensures in
    by_turned c.args.self.now c.quotient_up.new.self c.multiple.new.self c.args.dividend.now c.in_ok-up.up c.in_ok-e.e c.args.opposite h c.in_ok-e.ensures
