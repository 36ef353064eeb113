use Rattle.std.proofs.Common.{◌≡◌, get_or, sym, subst, arith}
use Rattle.linear.proofs.LinearLaws.{both_weaker}
use Rattle.symbols.proofs.CaseLemmas.{settled_by}
use Rattle.symbols.proofs.cases.settled_at.Goals as goal

pub returns : goal.returns
returns c =
    let bs = c.held_branches-branches.result.now in
    let b = c.get-branch.result.now in
    both_weaker c.replaced.result _ _
    (λ e h. settled_by c.args.here.now bs c.args.at b c.args.expression.now e c.held_branches-branches.ensures (omega arith) (subst (λ x. x ≡ get_or bs c.args.at x) (sym c.get-branch.ensures) c.index-branches-at.is) (c.in_ok-taken.ensures c.if-not-taken.false) h)
    c.replaced.ensures
