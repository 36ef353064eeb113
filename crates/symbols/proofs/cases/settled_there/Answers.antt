use Rattle.std.proofs.Common.{refl}
use Rattle.symbols.proofs.CaseLemmas.{same_itself}
use Rattle.symbols.proofs.cases.settled_there.Goals as goal

pub returns-in-Some : goal.returns-in-Some
returns-in-Some c = rw c.in-Some.is at c.in_ok-next.ensures

pub returns-in-None : goal.returns-in-None
returns-in-None c = same_itself c.args.here.now c.args.expression c.args.expression refl
