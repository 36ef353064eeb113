use Rattle.symbols.proofs.BranchLemmas.{equal_excluded}
use Rattle.symbols.proofs.branches.by_equal.Goals as goal

pub returns-in_ok-both-in-Some : goal.returns-in_ok-both-in-Some
returns-in_ok-both-in-Some c =
    let z = rw c.in-Some.is at c.in_ok-zero.ensures in
    rw (c.in_ok-both-in-Some.ensures.facts, c.in_ok-both-in-Some.ensures.apart)
    (equal_excluded c.args.count c.held_apart.result.now c.args.here.now c.args.away.now c.in-Some.expression c.in-Some.opposite c.held_apart.ensures z)
