use Rattle.analysis_values.proofs.TruthLemmas.{either_other}
use Rattle.analysis_values.proofs.truths.joined.Goals as goal

pub returns-in-None : goal.returns-in-None
returns-in-None c = rw c.in-None.is (either_other c.args.symbols.now c.args.other)

pub returns-in-Some : goal.returns-in-Some
returns-in-Some c = rw c.in-Some.is c.joined_with.ensures
