use Rattle.std.proofs.Common.{refl}
use Rattle.analysis_values.proofs.operations.within.Goals as goal

pub returns-then-not-others : goal.returns-then-not-others
returns-then-not-others c = record { number = refl; others = λ h. absurd (cc); fits = λ h. absurd (cc) }

pub returns : goal.returns
returns c = record { number = refl; others = λ h. c.if-not-others.false; fits = c.in_ok-fits.ensures }
