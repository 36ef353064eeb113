use Rattle.symbols.proofs.CaseLemmas.{same_itself, same_then}
use Rattle.symbols.proofs.cases.settled.Goals as goal

pub loop-before-init : goal.loop-before-init
loop-before-init c = same_itself c.args.here.now c.args.expression.now c.in_ok-number.number c.in_ok-number.ensures

pub loop-before-preserved : goal.loop-before-preserved
loop-before-preserved c = same_then c.args.here.now c.args.expression.now c.loop-before.number c.in_ok-next.next c.loop-before.invariant c.in_ok-next.ensures
