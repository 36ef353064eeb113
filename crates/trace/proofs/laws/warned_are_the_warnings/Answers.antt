use Rattle.trace.proofs.WarnedLemmas.{warned_are_warnings}
use Rattle.trace.proofs.laws.warned_are_the_warnings.Goals as goal

pub returns : goal.returns
returns c = warned_are_warnings
