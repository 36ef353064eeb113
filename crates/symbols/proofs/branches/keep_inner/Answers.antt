use Rattle.linear.specs.Linear.{symbol}
use Rattle.symbols.proofs.BranchLemmas.{keeps_then}
use Rattle.symbols.proofs.branches.keep_inner.Goals as goal

pub loop-at-preserved : goal.loop-at-preserved
loop-at-preserved c =
    keeps_then c.args.symbols.now c.loop-at.symbols c.keep_if_own.new.symbols c.args.here.now (symbol c.args.own) c.args.condition.now.facts c.args.condition.now.apart c.args.count c.args.symbol c.loop-at.invariant
    c.in_ok-keep_if_own.ensures
