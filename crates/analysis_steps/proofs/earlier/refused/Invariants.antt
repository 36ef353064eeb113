use Rattle.std.proofs.Common.{Some}
use Rattle.analysis_steps.specs.Earlier.{IsIgnoredBy}
use Rattle.analysis_steps.proofs.earlier.refused.Given as goal

abbrev pub invariant-loop-case : goal.invariant-loop-case
invariant-loop-case l = IsIgnoredBy l.known l.cases (Some l.left)
