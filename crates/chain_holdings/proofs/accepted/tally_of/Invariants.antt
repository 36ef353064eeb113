use Rattle.std.proofs.Common.{take}
use Rattle.chain_holdings.proofs.TallyLemmas.{IsOf}
use Rattle.chain_holdings.proofs.accepted.tally_of.Given as goal

abbrev pub invariant-loop-place : goal.invariant-loop-place
invariant-loop-place l = IsOf l.tally l.fn.tick (take l.place l.entries)
