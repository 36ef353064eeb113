use Rattle.symbols.proofs.EitherLemmas.{relates_none}
use Rattle.symbols.proofs.either.relate_next.Goals as goal

pub returns-in-None : goal.returns-in-None
returns-in-None c = relates_none c.args.symbols.now c.args.one.now c.args.left.now c.args.other.now c.args.right.now c.args.count c.args.number.now
