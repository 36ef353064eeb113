use Rattle.std.proofs.lemmas.Result.{on_ok_weaker}
use Rattle.told_parts.proofs.PieceLemmas.{three_pieces}
use Rattle.told_parts.proofs.lines.put_where.Goals as goal

pub returns : goal.returns
returns c =
    on_ok_weaker c.put_bytes.result
    (λ last. three_pieces c.args.out.now.items c.put_spot.new.out.items c.put_at.new.out.items c.put_bytes.new.out.items _ _ _ c.in_ok-put_spot.ensures c.in_ok-put_at.ensures last)
    c.put_bytes.ensures
