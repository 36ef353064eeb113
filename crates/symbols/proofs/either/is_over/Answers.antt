use Rattle.symbols.proofs.EitherLemmas.{over_both}
use Rattle.symbols.proofs.either.is_over.Goals as goal

pub returns : goal.returns
returns c = λ h. over_both c.args.one.now c.args.left.now c.args.other.now c.args.right.now c.args.side.now (c.in_ok-first.ensures c.if-not-first.false) (c.in_ok-second.ensures h)
