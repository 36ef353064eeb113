use Rattle.symbols.specs.Held.{branch_of}
use Rattle.symbols.proofs.BranchLemmas.{taken_by}
use Rattle.symbols.proofs.branches.is_taken.Goals as goal

pub returns : goal.returns
returns c =
    let f = rw c.as_slice.ensures at (c.shows_all-shown.ensures c.if-not-shown.false) in
    λ h. let d = rw c.as_slice-2.ensures at (c.in_ok-apart.ensures h) in
    taken_by (branch_of c.args.branch.now) c.args.here.now c.args.expression.now (c.in_ok-same.ensures c.if-not-same.false) f d
