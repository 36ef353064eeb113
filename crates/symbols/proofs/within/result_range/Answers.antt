use Rattle.symbols.proofs.WithinLemmas.{product_is, quotient_is}
use Rattle.symbols.proofs.within.result_range.Goals as goal

pub returns-then-divides : goal.returns-then-divides
returns-then-divides c = rw c.if-divides.true (quotient_is c.args.left c.args.right c.quotient_range.result c.quotient_range.ensures)

pub returns-else-divides : goal.returns-else-divides
returns-else-divides c = rw c.if-divides.false (product_is c.args.left c.args.right c.product_range.result c.product_range.ensures)
