use Rattle.symbols.specs.Held.{operations_of, branches_of}
use Rattle.symbols.proofs.CaseLemmas.{fact_held}
use Rattle.symbols.proofs.symbols.Symbols.with_fact.Goals as goal

pub returns : goal.returns
returns c =
    rw (c.in_ok-copy.ensures, c.in_ok-bounds.ensures, c.in_ok-push.ensures.added, c.in_ok-facts.ensures, c.in_ok-more.ensures, ← c.self.view_is)
    (fact_held c.self.inside.bounds c.self.inside.facts c.self.inside.apart (operations_of c.self.inside.operations) (branches_of c.self.inside.branches) c.args.fact.now)
