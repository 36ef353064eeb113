use Rattle.symbols.proofs.BranchLemmas.{rules_out_take, rules_out_all_taken}
use Rattle.symbols.proofs.branches.rules_out_all.Goals as goal

pub loop-d-preserved : goal.loop-d-preserved
loop-d-preserved c = rules_out_take c.args.here.now c.held_apart-known.result.now c.args.apart.now c.loop-d.d-index c.d-item.result c.held_apart-known.ensures c.loop-d-test.true c.d-item.is c.loop-d.invariant (c.in_ok-yes.ensures c.if-not-yes.false)

pub returns : goal.returns
returns c = λ _. rules_out_all_taken c.args.here.now c.args.apart.now c.loop-d.d-index c.loop-d-test.false c.loop-d.invariant
