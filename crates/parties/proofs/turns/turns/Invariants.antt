use Rattle.parties.specs.PlaysSupport.{WentNoted}
use Rattle.parties.proofs.turns.turns.Given as goal

abbrev pub invariant-loop : goal.invariant-loop
invariant-loop g l = WentNoted l.means.plan.now l.initial.seat l.seat l.initial.receipts.items l.receipts.items
