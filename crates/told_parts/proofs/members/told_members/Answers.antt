use Rattle.told_parts.specs.Told.{seen}
use Rattle.told_parts.specs.Members.{where_members, what_members, hint_members, other_members}
use Rattle.told_parts.proofs.PieceLemmas.{four_in_all}
use Rattle.told_parts.proofs.members.told_members.Goals as goal

pub returns : goal.returns
returns c =
    let t = seen c.args.told.now in
    four_in_all c.new-out.result.items c.put_where.new.out.items c.put_what.new.out.items c.put_hint.new.out.items c.put_others.new.out.items (where_members c.args.file.now t) (what_members t) (hint_members t) (other_members t)
    c.new-out.ensures.items c.in_ok-put_where.ensures c.in_ok-put_what.ensures c.in_ok-put_hint.ensures c.in_ok-put_others.ensures
