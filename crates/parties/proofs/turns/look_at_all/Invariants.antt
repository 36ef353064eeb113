use Rattle.std.proofs.Common.{take}
use Rattle.parties.specs.PlaysSupport.{WasShown}
use Rattle.parties.proofs.turns.look_at_all.Given as goal

abbrev pub invariant-loop-ask : goal.invariant-loop-ask
invariant-loop-ask g l = WasShown l.means.plan.now (take l.ask-index l.ask-items) l.initial.seat l.seat l.initial.receipts.items l.receipts.items
