use Rattle.symbols.specs.Held.{operations_of, branches_of}
use Rattle.symbols.proofs.symbols.Symbols.fresh.Goals as goal

pub returns-clause-any : goal.returns-clause-any
returns-clause-any c = rw (← c.self.view_is) (c.in_ok-e.ensures.any c.self.inside.facts c.self.inside.apart (operations_of c.self.inside.operations) (branches_of c.self.inside.branches))

pub returns-clause-name : goal.returns-clause-name
returns-clause-name c = rw (← c.self.view_is) c.in_ok-e.ensures.name
