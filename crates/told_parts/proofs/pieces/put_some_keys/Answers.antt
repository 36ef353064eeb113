use Rattle.std.proofs.lemmas.Result.{on_ok_weaker}
use Rattle.told_parts.proofs.PieceLemmas.{three_pieces}
use Rattle.told_parts.proofs.pieces.put_some_keys.Goals as goal

pub returns : goal.returns
returns c =
    on_ok_weaker c.put_more_keys.result
    (λ last. three_pieces c.args.out.now.items c.put_bytes.new.out.items c.put_key.new.out.items c.put_more_keys.new.out.items _ _ _ c.in_ok-put_bytes.ensures c.in_ok-put_key.ensures last)
    c.put_more_keys.ensures
