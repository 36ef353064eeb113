use Rattle.roles.specs.Sums.{sums_of}
use Rattle.roles.proofs.OutputLemmas.{decided_amounts}
use Rattle.roles.proofs.amounts.holds_sums.Goals as goal

pub returns : goal.returns
returns c = decided_amounts c.is_sums.result c.args.amount.now (sums_of c.args.state.now) c.is_sums.ensures
