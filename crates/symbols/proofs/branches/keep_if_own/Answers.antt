use Rattle.std.proofs.Common.{◌≡◌, get_or, sym, subst}
use Rattle.symbols.proofs.BranchLemmas.{taken_kept}
use Rattle.symbols.proofs.branches.keep_if_own.Goals as goal

pub returns : goal.returns
returns c =
    let o = c.is_older.ensures c.if-not-is_older.false in
    taken_kept c.args.symbols.now c.keep_taken.new.symbols c.args.here.now c.args.branches.now c.args.at c.get-branch.result.now c.args.condition.now.facts c.args.condition.now.apart c.args.own c.args.count
    c.args.symbol c.requires.own c.requires.at (subst (λ b. b ≡ get_or c.args.branches.now c.args.at b) (sym c.get-branch.ensures) c.index-branches-at.is) c.if-branch-own.false o.facts o.apart o.number c.in_ok-keep_taken.ensures
