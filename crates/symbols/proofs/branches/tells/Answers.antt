use Rattle.std.proofs.Common.{◌≡◌, get_or, sym, subst}
use Rattle.symbols.proofs.BranchLemmas.{told_by}
use Rattle.symbols.proofs.branches.tells.Goals as goal

pub returns : goal.returns
returns c = λ h. told_by c.args.branches.now c.args.at c.get-branch.result.now c.args.symbol c.args.here.now c.args.expression.now c.requires (subst (λ b. b ≡ get_or c.args.branches.now c.args.at b) (sym c.get-branch.ensures) c.index-branches-at.is) c.if-branch-symbol.false (c.in_ok-taken.ensures h)
