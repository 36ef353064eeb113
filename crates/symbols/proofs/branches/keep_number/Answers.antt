use Rattle.symbols.proofs.BranchLemmas.{own_kept}
use Rattle.symbols.proofs.branches.keep_number.Goals as goal

pub returns-then-older : goal.returns-then-older
returns-then-older c =
    own_kept c.args.symbols.now c.keep_own.new.symbols c.args.here.now c.args.number.now c.args.condition.now.facts c.args.condition.now.apart c.args.count c.args.symbol
    (rw c.terms.ensures at (c.is_below-older.ensures c.if-older.true)) c.in_ok-keep_own.ensures

pub returns-in-Some : goal.returns-in-Some
returns-in-Some c =
    let e = rw c.in-Some.is at c.lone_symbol.ensures in
    rw e c.keep_inner.ensures
