use Rattle.std.proofs.Common.{subst, sym}
use Rattle.linear.specs.Linear.{Linear}
use Rattle.symbols.specs.Branches.{IsZeroIn}
use Rattle.symbols.proofs.BranchLemmas.{zero_by}
use Rattle.symbols.proofs.branches.zero_at.Goals as goal

pub returns-in_ok-copy-in-Some : goal.returns-in_ok-copy-in-Some
returns-in_ok-copy-in-Some c =
    let s = rw c.in-Some.is at c.in_ok-opposite.ensures in
    let b = rw c.terms.ensures at (c.is_below-older.ensures c.if-not-older.false) in
    subst (λ (x : Linear). IsZeroIn c.args.count c.args.apart.now c.args.zero.now x c.in-Some.opposite) (sym c.in_ok-copy-in-Some.ensures)
    (zero_by c.args.count c.args.apart.now c.args.at c.args.zero.now c.index-apart-at.result c.in-Some.opposite c.requires c.index-apart-at.is b s (c.shows_zero-yes.ensures c.if-yes.true))
