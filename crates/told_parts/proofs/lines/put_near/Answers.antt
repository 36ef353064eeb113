use Rattle.std.proofs.Common.{◌++◌, ap, ◌∙◌}
use Rattle.std.proofs.lemmas.Result.{on_ok_weaker}
use Rattle.told_parts.specs.Lines.{near_line}
use Rattle.told_parts.proofs.lines.put_near.Goals as goal

pub returns : goal.returns
returns c = on_ok_weaker c.put_near_key.result (λ e. e ∙ ap (λ k. c.args.out.now.items ++ near_line k) c.near_key.ensures) c.put_near_key.ensures
