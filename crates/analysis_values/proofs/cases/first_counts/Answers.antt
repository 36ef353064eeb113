use Rattle.analysis_values.proofs.TruthLemmas.{first_counts}
use Rattle.analysis_values.proofs.cases.first_counts.Goals as goal

pub returns-in-None : goal.returns-in-None
returns-in-None c =
    rw (c.in-None.is, c.alone.ensures.symbols, c.alone.ensures.number, c.alone.ensures.fits) (first_counts c.args.symbols.now c.args.first c.args.others)

pub returns-in-Some : goal.returns-in-Some
returns-in-Some c = rw c.in-Some.is c.of_both.ensures
