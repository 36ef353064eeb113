use Rattle.std.proofs.Common.{refl}
use Rattle.symbols.proofs.operations.symbol_of.Goals as goal

pub returns-then-yes : goal.returns-then-yes
returns-then-yes c = (c.in_ok-yes.ensures c.if-yes.true, refl)
