use Rattle.analysis_values.proofs.JunctionLemmas.{first_decides}
use Rattle.analysis_values.proofs.junctions.decided.Goals as goal

pub returns-in-None : goal.returns-in-None
returns-in-None c = rw (c.in-None.is, c.side.ensures) (first_decides c.args.junction c.args.symbols.now c.args.fits c.args.first)

pub returns-in-Some : goal.returns-in-Some
returns-in-Some c = rw c.in-Some.is c.decided_by.ensures
