use Rattle.analysis_values.proofs.TruthLemmas.{unites_other}
use Rattle.analysis_values.proofs.observed.either.Goals as goal

pub returns-in-None : goal.returns-in-None
returns-in-None c = rw c.in-None.is (unites_other c.args.known.now c.args.other)

pub returns-in-Some : goal.returns-in-Some
returns-in-Some c = rw c.in-Some.is c.united.ensures
