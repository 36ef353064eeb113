use Rattle.symbols.proofs.EitherLemmas.{relates_none, relates_then}
use Rattle.symbols.proofs.either.relate_over.Goals as goal

pub loop-newer-init : goal.loop-newer-init
loop-newer-init c = relates_none c.args.symbols.now c.args.one.now c.args.left.now c.args.other.now c.args.right.now c.args.count c.args.number.now

pub loop-newer-preserved : goal.loop-newer-preserved
loop-newer-preserved c =
    relates_then c.args.symbols.now c.loop-newer.symbols c.relate_next.new.symbols c.args.one.now c.args.left.now c.args.other.now c.args.right.now c.args.count c.args.number.now c.loop-newer.invariant c.in_ok-step.ensures
