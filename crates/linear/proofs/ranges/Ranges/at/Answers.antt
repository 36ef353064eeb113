use Rattle.linear.specs.Ranged.{before}
use Rattle.linear.proofs.RangeLaws.{of_symbol}
use Rattle.linear.proofs.ranges.Ranges.at.Goals as goal

pub returns : goal.returns
returns c =
    let h = rw (c.deref.ensures.value, c.deref-2.ensures.value) at c.range_in.ensures in
    rw (← c.self.view_is) (of_symbol (before c.self.inside.parts.items c.self.inside.newest.items) c.args.symbol c.range_in.result h)
