use Rattle.std.specs.List.{All}
use Rattle.parties.specs.Plays.{IsLeftOut, added}
use Rattle.parties.specs.PlaysSupport.{WentNoted}
use Rattle.parties.proofs.party.perform_all.Given as goal

abbrev pub invariant-loop-place : goal.invariant-loop-place
invariant-loop-place g l = WentNoted l.means.plan.now l.initial.seat l.seat l.initial.receipts.items l.receipts.items × All (IsLeftOut l.means.plan.now (added l.initial.seat l.seat)) l.left.items
