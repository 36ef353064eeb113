use Rattle.std.proofs.Common.{arith}
use Rattle.analysis_walk.proofs.NodesLemmas.{nodes-at}
use Rattle.analysis_walk.proofs.weight.+weight.Goals as goal

pub weights-weight-requires : goal.weights-weight-requires
weights-weight-requires t c = (omega (arith, c.decreases, nodes-at c.args.cases.now c.loop-case.case-index c.case-item.result c.loop-case-test.true c.case-item.is), tt)
