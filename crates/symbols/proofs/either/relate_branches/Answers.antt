use Rattle.symbols.proofs.EitherLemmas.{relates_then}
use Rattle.symbols.proofs.either.relate_branches.Goals as goal

pub loop-at-preserved : goal.loop-at-preserved
loop-at-preserved c =
    relates_then c.args.symbols.now c.loop-at.symbols c.relate_branch.new.symbols c.args.one.now c.args.left.now c.args.other.now c.args.right.now c.args.count c.args.number.now c.loop-at.invariant c.in_ok-relate_branch.ensures
