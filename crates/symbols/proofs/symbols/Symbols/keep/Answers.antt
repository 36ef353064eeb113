use Rattle.symbols.specs.Held.{operations_of}
use Rattle.symbols.proofs.BranchLemmas.{keep_held}
use Rattle.symbols.proofs.symbols.Symbols.keep.Goals as goal

pub returns : goal.returns
returns c =
    rw (← c.self.view_is, c.in_ok-push.ensures.added, c.in_ok-branch.ensures)
    (keep_held c.self.inside.bounds c.self.inside.facts c.self.inside.apart (operations_of c.self.inside.operations) c.self.inside.branches c.make_room.new.list (record { facts = c.args.facts; apart = c.args.apart; symbol = c.args.symbol; number = c.args.number }) c.in_ok-make_room.ensures)
