use Rattle.contract.specs.Tree.{contract_tree}
use Rattle.semantics.specs.Evaluation.Path.{waits_for}
use Rattle.replay.proofs.TriesLemmas.{tried_one_more}
use Rattle.replay.proofs.tries.comes_to.Goals as goal

pub loop-before-preserved : goal.loop-before-preserved
loop-before-preserved c =
    tried_one_more c.args.interval c.args.state.now c.args.input.now (waits_for (contract_tree c.args.contract.now)) c.loop-before.before (c.passes_by-passed.ensures c.if-not-passed.false) c.loop-before.invariant
