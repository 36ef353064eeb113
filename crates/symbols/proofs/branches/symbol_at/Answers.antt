use Rattle.std.proofs.Common.{◌≡◌, get_or, sym, subst}
use Rattle.symbols.proofs.BranchLemmas.{symbol_below}
use Rattle.symbols.proofs.branches.symbol_at.Goals as goal

pub returns-then-second : goal.returns-then-second
returns-then-second c = record {
  below = λ n h. symbol_below c.args.branches.now c.args.at c.get-branch.result.now n c.requires (subst (λ b. b ≡ get_or c.args.branches.now c.args.at b) (sym c.get-branch.ensures) c.index-branches-at.is) h;
  left = c.in_ok-first.ensures c.if-not-first.false;
  right = c.in_ok-second.ensures c.if-second.true;
}
