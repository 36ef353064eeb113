use Rattle.std.proofs.Common.{ap, ◌∙◌}
use Rattle.told_parts.specs.Lines.{near_key}
use Rattle.told_parts.proofs.hints.near_key.Goals as goal

pub returns : goal.returns
returns c = c.near_sought.ensures ∙ ap (near_key c.args.sort) c.sought.ensures
