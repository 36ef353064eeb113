use Rattle.std.proofs.Common.{◌≡◌, take}
use Rattle.chain_holdings.specs.After.{course}
use Rattle.chain_holdings.proofs.again.made_again.Given as goal

abbrev pub invariant-loop-entry : goal.invariant-loop-entry
invariant-loop-entry l = l.chain ≡ course l.fn.first l.fn.tick (take l.entry-index l.entries)
