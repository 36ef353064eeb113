use Rattle.std.proofs.Common.{◌∙◌}
use Rattle.linear.proofs.RangeLaws.{closed_full, closed_same}
use Rattle.linear.proofs.ranges.close.Goals as goal

pub returns-clause-full : goal.returns-clause-full
returns-clause-full c =
    closed_full c.args.parts.now.items c.push.new.self.items c.in_ok-part.part c.args.newest.now.items c.requires.full c.requires.long (c.in_ok-part.ensures ∙ (c.in_ok-ranges.ensures ∙ c.deref.ensures.value)) c.in_ok-push.ensures.items

pub returns-clause-same : goal.returns-clause-same
returns-clause-same c =
    closed_same c.args.parts.now.items c.push.new.self.items c.in_ok-part.part c.args.newest.now.items c.clear.new.self.items (c.in_ok-part.ensures ∙ (c.in_ok-ranges.ensures ∙ c.deref.ensures.value)) c.in_ok-push.ensures.items
    c.clear.ensures.items
