use Rattle.json_tree.specs.View.{view}
use Rattle.explanations.proofs.ExplainLemmas.{read_is_utf8}
use Rattle.explanations.proofs.explain.explained_scenario.Goals as goal

pub told_scenario-requires : goal.told_scenario-requires
told_scenario-requires c = read_is_utf8 c.args.how.depth c.args.text.now (view c.in-Ok.json) c.in-Ok.ensures
