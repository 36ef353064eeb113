use Rattle.symbols.specs.Held.{operations_of, branches_of}
use Rattle.symbols.proofs.HeldLemmas.{within_held}
use Rattle.symbols.proofs.symbols.Symbols.narrow.Goals as goal

pub returns : goal.returns
returns c =
    rw (← c.self.view_is)
    (within_held c.self.inside.bounds c.narrow_to.new.bounds c.self.inside.facts c.self.inside.apart (operations_of c.self.inside.operations) (branches_of c.self.inside.branches) c.args.symbol c.args.range.least c.args.range.greatest c.in_ok-narrow_to.ensures)
