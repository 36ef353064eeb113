use Rattle.symbols.specs.Held.{branches_of}
use Rattle.symbols.proofs.symbols.Symbols.new_operation.Goals as goal

pub returns : goal.returns
returns c = rw (← c.self.view_is) (c.in_ok-e.ensures c.self.inside.facts c.self.inside.apart (branches_of c.self.inside.branches))
