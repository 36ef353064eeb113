use Rattle.std.proofs.Common.{refl}
use Rattle.symbols.proofs.CaseLemmas.{same_itself}
use Rattle.symbols.proofs.cases.settled_before.Goals as goal

pub returns-in-None : goal.returns-in-None
returns-in-None c = same_itself c.args.here.now c.args.expression c.args.expression refl
