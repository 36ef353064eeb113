use Rattle.json_tree.specs.View.{view}
use Rattle.explanations.proofs.ExplainLemmas.{read_is_utf8}
use Rattle.explanations.proofs.explain.explained_value.Goals as goal

pub told_json-requires : goal.told_json-requires
told_json-requires c = read_is_utf8 c.args.how.depth c.args.text.now (view c.args.json.now) c.requires
