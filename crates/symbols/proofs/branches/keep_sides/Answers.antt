use Rattle.symbols.proofs.BranchLemmas.{both_sides}
use Rattle.symbols.proofs.branches.keep_sides.Goals as goal

pub returns : goal.returns
returns c =
    both_sides c.args.symbols.now c.keep_side.new.symbols c.keep_side-2.new.symbols c.args.one.now c.args.left.now c.args.other.now c.args.right.now c.args.count c.args.symbol c.in_ok-keep_side.ensures
    c.in_ok-keep_side-2.ensures
