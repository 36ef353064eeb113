use Rattle.std.proofs.Common.{ap, ◌∙◌}
use Rattle.std.proofs.lemmas.Result.{IfOk-weaker}
use Rattle.told_parts.specs.Lines.{sought_text}
use Rattle.told_parts.proofs.hints.meant_text.Goals as goal

pub returns : goal.returns
returns c = IfOk-weaker c.sought_text.result _ _ (λ text e. e ∙ ap (sought_text c.args.sort) c.sought.ensures) c.sought_text.ensures
