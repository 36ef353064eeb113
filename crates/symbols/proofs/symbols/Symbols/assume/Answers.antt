use Rattle.symbols.proofs.HeldLemmas.{assumes_some}
use Rattle.symbols.proofs.symbols.Symbols.assume.Goals as goal

pub returns : goal.returns
returns c = assumes_some c.args.self.now c.learn.new.self c.args.expression.now c.in_ok-sharp.sharp c.in_ok-sharp.ensures c.in_ok-learn.ensures
