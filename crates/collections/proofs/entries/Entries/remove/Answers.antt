use Rattle.std.proofs.Common.{ap, length, arith}
use Rattle.std.specs.FinMap.Entries.{is_sorted-where_key}
use Rattle.collections.proofs.Places.{found, missed, at_in_range, without_at, without_gap}
use Rattle.collections.proofs.entries.Entries.remove.Goals as goal

pub remove-requires : goal.remove-requires
remove-requires g c =
    let at = found g.K.Ord.cmp (g.Q.Probe.sought c.args.key.now) c.self.inside.items.items _ _ c.in-Ok.at c.search.ensures c.deref.ensures.value c.in-Ok.is in
    omega (arith, at_in_range g.K.Ord.cmp (g.Q.Probe.sought c.args.key.now) c.self.inside.items.items c.in-Ok.at at, ap length c.deref.ensures.value)

pub returns-in-Ok-clause-removed : goal.returns-in-Ok-clause-removed
returns-in-Ok-clause-removed g c =
    let at = found g.K.Ord.cmp (g.Q.Probe.sought c.args.key.now) c.self.inside.items.items _ _ c.in-Ok.at c.search.ensures c.deref.ensures.value c.in-Ok.is in
    cc (without_at g.K.Ord.cmp (g.Q.Probe.sought c.args.key.now) g.met.K.Ord.total c.self.inside.items.items c.in-Ok.at c.self.invariant at, c.remove.ensures.items, c.self.view_is)

pub invariant_of-self : goal.invariant_of-self
invariant_of-self g c =
    let at = found g.K.Ord.cmp (g.Q.Probe.sought c.args.key.now) c.self.inside.items.items _ _ c.in-Ok.at c.search.ensures c.deref.ensures.value c.in-Ok.is in
    let taken = without_at g.K.Ord.cmp (g.Q.Probe.sought c.args.key.now) g.met.K.Ord.total c.self.inside.items.items c.in-Ok.at c.self.invariant at in
    rw (c.remove.ensures.items, ← taken) (is_sorted-where_key g.K.Ord.cmp _ _ c.self.invariant)

pub returns-in-Err-clause-removed : goal.returns-in-Err-clause-removed
returns-in-Err-clause-removed g c =
    let gap = missed g.K.Ord.cmp (g.Q.Probe.sought c.args.key.now) c.self.inside.items.items _ _ c.in-Err.field-0 c.search.ensures c.deref.ensures.value c.in-Err.is in
    cc (without_gap g.K.Ord.cmp (g.Q.Probe.sought c.args.key.now) g.met.K.Ord.total c.self.inside.items.items c.in-Err.field-0 c.self.invariant gap, c.self.view_is)
