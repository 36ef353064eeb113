use Rattle.symbols.specs.Held.{operations_of, branches_of}
use Rattle.symbols.proofs.JoinLemmas.{join_held}
use Rattle.symbols.proofs.symbols.Symbols.join.Goals as goal

pub returns : goal.returns
returns c =
    rw (c.in_ok-joined.ensures, ← c.self.view_is)
    (join_held c.self.inside.bounds c.in_ok-bounds.bounds c.held_ranges-left.result.now c.held_ranges-right.result.now c.self.inside.facts c.self.inside.apart c.in_ok-facts.facts
    c.held_facts-more.result.now
    c.held_facts-others.result.now (operations_of c.self.inside.operations) (branches_of c.self.inside.branches) c.args.one.now c.args.other.now c.len-count.result c.len-count.ensures c.held_ranges-left.ensures
    c.held_ranges-right.ensures c.held_facts-more.ensures
    c.held_facts-others.ensures c.in_ok-bounds.ensures c.in_ok-facts.ensures)
