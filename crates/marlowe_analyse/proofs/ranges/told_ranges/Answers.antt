use Rattle.contract.specs.Tree.{contract_tree}
use Rattle.marlowe_analyse.proofs.RangesLemmas.{hold_so, leasts_so}
use Rattle.marlowe_analyse.proofs.ranges.told_ranges.Goals as goal

pub returns-else-branch-clause-hold : goal.returns-else-branch-clause-hold
returns-else-branch-clause-hold c = hold_so c.args.state.now (contract_tree c.args.contract.now) c.args.ranges c.without_leasts.result c.without_leasts.ensures c.requires

pub returns-else-branch-clause-leasts : goal.returns-else-branch-clause-leasts
returns-else-branch-clause-leasts c = leasts_so c.args.state.now (contract_tree c.args.contract.now) c.args.ranges c.without_leasts.result c.without_leasts.ensures
