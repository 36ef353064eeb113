use Rattle.symbols.specs.Held.{operations_of, branches_of}
use Rattle.symbols.proofs.symbols.Symbols.learn.Goals as goal

pub returns : goal.returns
returns c = rw (← c.self.view_is) (c.in_ok-put_fact.ensures c.self.inside.apart (operations_of c.self.inside.operations) (branches_of c.self.inside.branches))
