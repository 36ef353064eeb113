use Rattle.std.proofs.Common.{take}
use Rattle.analysis.specs.Closes.{ArePaid, NamesAll}
use Rattle.analysis.proofs.closes.spans_of.Given as goal

abbrev pub invariant-loop-account : goal.invariant-loop-account
invariant-loop-account l = record { paid : ArePaid l.known l.all; named : NamesAll (take l.account-index l.names) l.all }
