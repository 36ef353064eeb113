use Rattle.symbols.proofs.CaseLemmas.{opposite_if}
use Rattle.symbols.proofs.cases.opposite_of.Goals as goal

pub returns : goal.returns
returns c = opposite_if c.args.fact.now c.number-one_below.result c.in_ok-opposite.opposite c.number-one_below.ensures c.in_ok-opposite.ensures
