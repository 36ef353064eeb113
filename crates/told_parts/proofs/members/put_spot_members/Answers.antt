use Rattle.std.proofs.lemmas.Result.{on_ok_weaker}
use Rattle.told_parts.proofs.PieceLemmas.{three_pieces}
use Rattle.told_parts.proofs.members.put_spot_members.Goals as goal

pub returns : goal.returns
returns c =
    on_ok_weaker c.put_next-2.result
    (λ last. three_pieces c.args.out.now.items c.put_first.new.out.items c.put_next.new.out.items c.put_next-2.new.out.items _ _ _ c.in_ok-put_first.ensures c.in_ok-put_next.ensures last)
    c.put_next-2.ensures
