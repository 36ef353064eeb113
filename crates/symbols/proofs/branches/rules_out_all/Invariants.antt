use Rattle.std.proofs.Common.{take}
use Rattle.symbols.specs.Branches.{RulesOutAll}
use Rattle.symbols.proofs.branches.rules_out_all.Given as goal

abbrev pub invariant-loop-d : goal.invariant-loop-d
invariant-loop-d l = RulesOutAll l.here (take l.d-index l.apart)
