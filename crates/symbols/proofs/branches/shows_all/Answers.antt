use Rattle.symbols.proofs.BranchLemmas.{shows_take, shows_all_taken}
use Rattle.symbols.proofs.branches.shows_all.Goals as goal

pub loop-fact-preserved : goal.loop-fact-preserved
loop-fact-preserved c = shows_take c.args.here.now c.args.facts.now c.loop-fact.fact-index c.fact-item.result c.loop-fact-test.true c.fact-item.is c.loop-fact.invariant (c.follows_since.ensures c.if-not-follows_since.false)

pub returns : goal.returns
returns c = λ _. shows_all_taken c.args.here.now c.args.facts.now c.loop-fact.fact-index c.loop-fact-test.false c.loop-fact.invariant
