use Rattle.analysis_values.proofs.TruthLemmas.{neither_counts, second_counts}
use Rattle.analysis_values.proofs.cases.second_alone.Goals as goal

pub returns-in_ok-number-in-None : goal.returns-in_ok-number-in-None
returns-in_ok-number-in-None c = rw c.in-None.is (neither_counts c.args.symbols.now c.unknown.new.self c.in_ok-number-in-None.number c.args.others)

pub returns-in-Some : goal.returns-in-Some
returns-in-Some c =
    rw (c.in-Some.is, c.alone.ensures.symbols, c.alone.ensures.number, c.alone.ensures.fits) (second_counts c.args.symbols.now c.in-Some.second c.args.others)
