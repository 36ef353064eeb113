use Rattle.std.proofs.Common.{ap, length, arith}
use Rattle.collections.proofs.Places.{found, missed, at_in_range, find_at, find_gap}
use Rattle.collections.proofs.entries.Entries.get.Goals as goal

pub index-requires : goal.index-requires
index-requires g c =
    let at = found g.K.Ord.cmp (g.Q.Probe.sought c.args.key.now) c.self.inside.items.items _ _ c.in-Ok.at c.search.ensures c.deref.ensures.value c.in-Ok.is in
    omega (arith, at_in_range g.K.Ord.cmp (g.Q.Probe.sought c.args.key.now) c.self.inside.items.items c.in-Ok.at at, ap length c.deref.ensures.value)

pub returns-in-Ok-clause-value : goal.returns-in-Ok-clause-value
returns-in-Ok-clause-value g c =
    let at = found g.K.Ord.cmp (g.Q.Probe.sought c.args.key.now) c.self.inside.items.items _ _ c.in-Ok.at c.search.ensures c.deref.ensures.value c.in-Ok.is in
    cc (find_at g.K.Ord.cmp (g.Q.Probe.sought c.args.key.now) c.self.inside.items.items c.in-Ok.at c.index.result.now at, c.index.ensures, c.self.view_is)

pub returns-in-Err-clause-value : goal.returns-in-Err-clause-value
returns-in-Err-clause-value g c =
    let gap = missed g.K.Ord.cmp (g.Q.Probe.sought c.args.key.now) c.self.inside.items.items _ _ c.in-Err.field-0 c.search.ensures c.deref.ensures.value c.in-Err.is in
    cc (find_gap g.K.Ord.cmp (g.Q.Probe.sought c.args.key.now) g.met.K.Ord.total c.self.inside.items.items c.in-Err.field-0 c.self.invariant gap, c.self.view_is)
