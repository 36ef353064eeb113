use Rattle.told_parts.proofs.PieceLemmas.{four_in_all}
use Rattle.told_parts.proofs.members.spot_object.Goals as goal

pub returns : goal.returns
returns c =
    four_in_all c.new-out.result.items c.put_bytes.new.out.items c.put_first.new.out.items c.put_next.new.out.items c.put_bytes-2.new.out.items _ _ _ _
    c.new-out.ensures.items c.in_ok-put_bytes.ensures c.in_ok-put_first.ensures c.in_ok-put_next.ensures c.in_ok-put_bytes-2.ensures
