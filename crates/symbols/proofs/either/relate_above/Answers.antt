use Rattle.symbols.proofs.EitherLemmas.{relates_none, relates_above}
use Rattle.symbols.proofs.either.relate_above.Goals as goal

pub returns-then-not-older : goal.returns-then-not-older
returns-then-not-older c = relates_none c.args.symbols.now c.args.one.now c.args.left.now c.args.other.now c.args.right.now c.args.count c.args.number.now

pub returns-then-not-yes : goal.returns-then-not-yes
returns-then-not-yes c = relates_none c.args.symbols.now c.args.one.now c.args.left.now c.args.other.now c.args.right.now c.args.count c.args.number.now

pub returns : goal.returns
returns c =
    relates_above c.args.symbols.now c.learn_least.new.symbols c.args.one.now c.args.left.now c.args.other.now c.args.right.now c.args.count c.args.number.now c.args.side.now
    (rw c.terms.ensures at (c.is_below-older.ensures c.if-not-older.false))
    (c.in_ok-yes.ensures c.if-not-yes.false) c.in_ok-learn_least.ensures
