use Rattle.symbols.proofs.branches.keep_own.Goals as goal

pub returns : goal.returns
returns c = rw (← c.in_ok-facts.ensures, ← c.in_ok-apart.ensures, ← c.in_ok-copy.ensures) c.in_ok-keep.ensures
