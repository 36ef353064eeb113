use Rattle.std.proofs.lemmas.Result.{on_ok_weaker}
use Rattle.told_parts.proofs.PieceLemmas.{four_pieces}
use Rattle.told_parts.proofs.lines.put_some_names.Goals as goal

pub returns : goal.returns
returns c =
    on_ok_weaker c.put_bytes.result
    (λ last. four_pieces c.args.out.now.items c.put_names_head.new.out.items c.put_key.new.out.items c.put_more_keys.new.out.items c.put_bytes.new.out.items _ _ _ _
    c.in_ok-put_names_head.ensures c.in_ok-put_key.ensures c.in_ok-put_more_keys.ensures last)
    c.put_bytes.ensures
