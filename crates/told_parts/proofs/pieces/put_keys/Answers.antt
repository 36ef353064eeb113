use Rattle.std.proofs.Common.{◌++◌, ap, ◌∙◌}
use Rattle.std.proofs.lemmas.Result.{on_ok_weaker}
use Rattle.told_parts.specs.Lines.{keys_text}
use Rattle.told_parts.proofs.PieceLemmas.{first_rest}
use Rattle.told_parts.proofs.pieces.put_keys.Goals as goal

pub returns-in-len1-up : goal.returns-in-len1-up
returns-in-len1-up c =
    on_ok_weaker c.put_some_keys.result (λ e. e ∙ ap (λ ks. c.args.out.now.items ++ keys_text ks) (first_rest (λ key. key.now) c.args.keys.now _ c.in-len1-up.len_at_least)) c.put_some_keys.ensures
