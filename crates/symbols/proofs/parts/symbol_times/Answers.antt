use Rattle.std.proofs.Common.{arith}
use Rattle.symbols.proofs.PartLemmas.{times_below}
use Rattle.symbols.proofs.parts.symbol_times.Goals as goal

pub returns : goal.returns
returns c = times_below c.args.count c.in_ok-symbol.symbol c.args.name _ c.in_ok-times.times c.in_ok-symbol.ensures (omega arith) c.in_ok-times.ensures
