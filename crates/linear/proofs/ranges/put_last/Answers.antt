use Rattle.std.proofs.Common.{◌≡◌, refl}
use Rattle.linear.specs.Ranged.{before}
use Rattle.linear.proofs.RangeLaws.{put_behind}
use Rattle.linear.proofs.ranges.put_last.Goals as goal
use Rattle.linear.proofs.ranges.put_last.Goals.{then-len-eq-PART+in_ok-close, else-len-eq-PART}

pub returns-clause-added : goal.returns-clause-added
returns-clause-added c =
    let same : before c.if-len-eq-PART.parts.items c.if-len-eq-PART.newest.items ≡ before c.args.parts.now.items c.args.newest.now.items =
    elim c.if-len-eq-PART.branch [ then-len-eq-PART+in_ok-close w ↦ rw (w.parts-is, w.newest-is) w.close.ensures.same | else-len-eq-PART w ↦ rw (w.parts-is, w.newest-is) refl ] in
    put_behind c.if-len-eq-PART.parts.items c.if-len-eq-PART.newest.items c.push.new.self.items _ c.args.range c.in_ok-push.ensures.items same
