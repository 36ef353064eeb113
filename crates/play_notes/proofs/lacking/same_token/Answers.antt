use Rattle.builder_spec.proofs.FromSemantics.Matching.{same_tokens}
use Rattle.play_notes.proofs.lacking.same_token.Goals as goal

pub returns : goal.returns
returns c = same_tokens c.args.token.now c.args.of.now c.same.result c.same.ensures
