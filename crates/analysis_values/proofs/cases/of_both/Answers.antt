use Rattle.analysis_values.proofs.TruthLemmas.{both_count}
use Rattle.analysis_values.proofs.cases.of_both.Goals as goal

pub returns : goal.returns
returns c =
    rw (c.both-fits.ensures, c.both-either.ensures) (both_count c.args.symbols.now c.number_of_either.new.symbols c.args.first.now c.args.second.now c.in_ok-number.number c.args.others c.in_ok-number.ensures)
