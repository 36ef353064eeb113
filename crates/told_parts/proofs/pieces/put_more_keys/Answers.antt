use Rattle.std.proofs.Common.{◌∙◌, ap, ◌++◌}
use Rattle.std.specs.Prelude.{flat_map}
use Rattle.std.proofs.lemmas.Result.{on_ok_weaker}
use Rattle.told_parts.specs.Lines.{next_key_text}
use Rattle.told_parts.proofs.PieceLemmas.{more_keys}
use Rattle.told_parts.proofs.pieces.put_more_keys.Goals as goal

pub returns : goal.returns
returns c =
    on_ok_weaker c.put_others.result
    (λ last. more_keys (λ key. key.now) c.args.keys.now c.args.out.now.items c.put_each_key.new.out.items c.put_others.new.out.items
    (c.in_ok-put_each_key.ensures ∙ ap (λ ks. c.args.out.now.items ++ flat_map (λ key. next_key_text key.now) ks) c.first_nine.ensures) last)
    c.put_others.ensures
