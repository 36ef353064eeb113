use Rattle.symbols.proofs.PartLemmas.{parted_by}
use Rattle.symbols.proofs.parts.with_rest.Goals as goal

pub returns-in-Some : goal.returns-in-Some
returns-in-Some c = parted_by c.args.count c.args.expression.now c.args.head c.in-Some.tail c.requires (rw c.in-Some.is at c.in_ok-rest.ensures)
