use Rattle.std.proofs.lemmas.Result.{on_ok_weaker}
use Rattle.told_parts.proofs.PieceLemmas.{three_pieces}
use Rattle.told_parts.proofs.members.put_what.Goals as goal

pub returns : goal.returns
returns c =
    on_ok_weaker c.put_keys.result
    (λ last. three_pieces c.args.out.now.items c.put_wanted.new.out.items c.put_stands.new.out.items c.put_keys.new.out.items _ _ _ c.in_ok-put_wanted.ensures c.in_ok-put_stands.ensures last)
    c.put_keys.ensures
