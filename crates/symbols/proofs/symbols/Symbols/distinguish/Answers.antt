use Rattle.symbols.specs.Held.{operations_of, branches_of}
use Rattle.symbols.proofs.HeldLemmas.{distinguish_held}
use Rattle.symbols.proofs.symbols.Symbols.distinguish.Goals as goal

pub returns : goal.returns
returns c = rw (← c.self.view_is, c.in_ok-push.ensures.added) (distinguish_held c.self.inside.bounds c.self.inside.facts c.self.inside.apart c.make_room.new.list (operations_of c.self.inside.operations) (branches_of c.self.inside.branches) c.args.expression c.in_ok-make_room.ensures)
