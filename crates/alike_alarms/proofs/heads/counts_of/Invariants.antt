use Rattle.std.proofs.Common.{◌≡◌, length}
use Rattle.alike_alarms.specs.AlikeSupport.{CountUpTo}
use Rattle.alike_alarms.proofs.heads.counts_of.Given as goal

abbrev pub invariant-loop-teller : goal.invariant-loop-teller
invariant-loop-teller l = (length l.counts.items ≡ length l.tellers) × CountUpTo l.tellers l.counts.items l.teller-index
