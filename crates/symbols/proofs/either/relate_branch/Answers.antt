use Rattle.symbols.proofs.EitherLemmas.{relates_none, relates_then}
use Rattle.symbols.proofs.either.relate_branch.Goals as goal

pub returns-then-branch-own : goal.returns-then-branch-own
returns-then-branch-own c = relates_none c.args.symbols.now c.args.one.now c.args.left.now c.args.other.now c.args.right.now c.args.count c.args.number.now

pub returns : goal.returns
returns c =
    relates_then c.args.symbols.now c.relate_below.new.symbols c.relate_above.new.symbols c.args.one.now c.args.left.now c.args.other.now c.args.right.now c.args.count c.args.number.now c.in_ok-relate_below.ensures
    c.in_ok-relate_above.ensures
