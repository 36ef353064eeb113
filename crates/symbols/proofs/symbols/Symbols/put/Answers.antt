use Rattle.symbols.specs.Held.{operations_of, branches_of}
use Rattle.symbols.proofs.HeldLemmas.{put_held}
use Rattle.symbols.proofs.symbols.Symbols.put.Goals as goal

pub returns : goal.returns
returns c =
    rw (← c.self.view_is, c.in_ok-push.ensures.added)
    (put_held c.self.inside.bounds c.self.inside.facts c.make_room.new.list c.self.inside.apart (operations_of c.self.inside.operations) (branches_of c.self.inside.branches) c.args.fact c.in_ok-make_room.ensures)
