use Rattle.symbols.proofs.HeldLemmas.{never_by}
use Rattle.symbols.proofs.apart.is_apart.Goals as goal

pub returns-then-yes : goal.returns-then-yes
returns-then-yes c = λ _. never_by c.args.apart.now c.loop-d.d-index c.d-item.result c.args.expression.now c.loop-d-test.true c.d-item.is (c.in_ok-yes.ensures c.if-yes.true)
