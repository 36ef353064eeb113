use Rattle.symbols.specs.Held.{operations_of, branches_of}
use Rattle.symbols.proofs.WithinLemmas.{within_ranges}
use Rattle.symbols.proofs.symbols.Symbols.within.Goals as goal

pub returns : goal.returns
returns c =
    rw (c.in_ok-copy.ensures, c.in_ok-facts.ensures, ← c.self.view_is)
    (within_ranges c.self.inside.bounds c.put_range.new.bounds c.put_results.new.bounds c.self.inside.facts c.self.inside.apart (operations_of c.self.inside.operations) (branches_of c.self.inside.branches)
    c.args.symbols.now c.args.range (rw c.in_ok-bounds.ensures at c.in_ok-put_range.ensures) (rw c.as_slice.ensures at c.in_ok-put_results.ensures))
