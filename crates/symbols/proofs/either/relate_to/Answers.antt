use Rattle.symbols.proofs.EitherLemmas.{relates_none}
use Rattle.symbols.proofs.either.relate_to.Goals as goal

pub returns-then-not-is_own : goal.returns-then-not-is_own
returns-then-not-is_own c = relates_none c.args.symbols.now c.args.one.now c.args.left.now c.args.other.now c.args.right.now c.args.count c.args.number.now
