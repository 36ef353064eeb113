use Rattle.std.proofs.lemmas.Result.{on_ok_weaker}
use Rattle.unread_notes.proofs.PieceLemmas.{three_pieces}
use Rattle.unread_notes.proofs.lines.put_pieces.Goals as goal

pub returns : goal.returns
returns c =
    on_ok_weaker c.put_key.result
    (λ last. three_pieces c.args.out.now.items c.put_spot.new.out.items c.put_at.new.out.items c.put_key.new.out.items _ _ _ c.in_ok-put_spot.ensures c.in_ok-put_at.ensures last)
    c.put_key.ensures
