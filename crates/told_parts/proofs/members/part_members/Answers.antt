use Rattle.std.specs.Prelude.{codes}
use Rattle.json_members.specs.Members.{first_member}
use Rattle.told_parts.specs.Told.{seen}
use Rattle.told_parts.specs.Members.{path_json, what_members, hint_members}
use Rattle.told_parts.proofs.PieceLemmas.{three_in_all}
use Rattle.told_parts.proofs.members.part_members.Goals as goal

pub returns : goal.returns
returns c =
    let t = seen c.args.told.now in
    three_in_all c.new-out.result.items c.put_first.new.out.items c.put_what.new.out.items c.put_hint.new.out.items (first_member (codes "place") (path_json t.path)) (what_members t) (hint_members t)
    c.new-out.ensures.items c.in_ok-put_first.ensures c.in_ok-put_what.ensures c.in_ok-put_hint.ensures
