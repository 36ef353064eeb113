use Rattle.std.proofs.Common.{rules, ◌≡◌, length}
use Rattle.file_parts.proofs.ViewLemmas.{same_done}
use Rattle.file_parts.proofs.same.+same.Goals as goal

pub same_members-returns : goal.same_members-returns
same_members-returns t c =
    let same : length c.args.new.now ≡ length c.args.old.now = search rules in
    λ yes. same_done c.args.old.now c.args.new.now c.loop-index.index c.loop-index-test.false same c.loop-index.invariant
