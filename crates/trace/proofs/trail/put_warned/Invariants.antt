use Rattle.std.proofs.Common.{◌≡◌, ◌++◌, take}
use Rattle.trace.specs.Warned.{at_place}
use Rattle.trace.proofs.trail.put_warned.Given as goal

abbrev pub invariant-loop-warning : goal.invariant-loop-warning
invariant-loop-warning l = l.warned ≡ l.fn.warned ++ at_place l.place (take l.warning-index l.warnings)
