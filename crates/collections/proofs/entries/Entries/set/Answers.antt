use Rattle.std.proofs.Common.{ap, sym, length, arith}
use Rattle.std.specs.FinMap.Entries.{is_sorted-put}
use Rattle.collections.proofs.Places.{found, missed, at_in_range, gap_in_range, put_at, put_gap, find_gap}
use Rattle.collections.proofs.entries.Entries.set.Goals as goal

pub index_mut-requires : goal.index_mut-requires
index_mut-requires g c =
    let at = found g.K.Ord.cmp (g.Q.Probe.sought c.args.key.now) c.self.inside.items.items _ _ c.in-Ok.at c.search.ensures c.deref.ensures.value c.in-Ok.is in
    omega (arith, at_in_range g.K.Ord.cmp (g.Q.Probe.sought c.args.key.now) c.self.inside.items.items c.in-Ok.at at, ap length c.deref.ensures.value)

pub returns-in-Ok-clause-ok : goal.returns-in-Ok-clause-ok
returns-in-Ok-clause-ok g c =
    let at = found g.K.Ord.cmp (g.Q.Probe.sought c.args.key.now) c.self.inside.items.items _ _ c.in-Ok.at c.search.ensures c.deref.ensures.value c.in-Ok.is in
    cc (put_at g.K.Ord.cmp (g.Q.Probe.sought c.args.key.now) c.args.value c.self.inside.items.items c.in-Ok.at c.index_mut.result.now at, c.index_mut.ensures.value, c.self.view_is)

pub invariant_of-self : goal.invariant_of-self
invariant_of-self g c =
    let at = found g.K.Ord.cmp (g.Q.Probe.sought c.args.key.now) c.self.inside.items.items _ _ c.in-Ok.at c.search.ensures c.deref.ensures.value c.in-Ok.is in
    let new = put_at g.K.Ord.cmp (g.Q.Probe.sought c.args.key.now) c.args.value c.self.inside.items.items c.in-Ok.at c.index_mut.result.now at in
    rw (c.index_mut.ensures.value, ← new) (is_sorted-put g.K.Ord.cmp g.met.K.Ord.total (g.Q.Probe.sought c.args.key.now) c.args.value _ c.self.invariant)

pub insert-requires : goal.insert-requires
insert-requires g c =
    let gap = missed g.K.Ord.cmp (g.Q.Probe.sought c.args.key.now) c.self.inside.items.items _ _ c.in-Err.at c.search.ensures c.deref.ensures.value c.in-Err.is in
    omega (arith, gap_in_range g.K.Ord.cmp (g.Q.Probe.sought c.args.key.now) c.self.inside.items.items c.in-Err.at gap, ap length c.deref.ensures.value)

pub returns-in_ok-insert-in-Err-clause-ok : goal.returns-in_ok-insert-in-Err-clause-ok
returns-in_ok-insert-in-Err-clause-ok g c =
    let gap = missed g.K.Ord.cmp (g.Q.Probe.sought c.args.key.now) c.self.inside.items.items _ _ c.in-Err.at c.search.ensures c.deref.ensures.value c.in-Err.is in
    rw (c.in_ok-insert-in-Err.ensures.items, c.in_ok-new-in-Err.ensures, ← c.self.view_is) (sym (put_gap g.K.Ord.cmp (g.Q.Probe.sought c.args.key.now) c.args.value c.self.inside.items.items c.in-Err.at gap))

pub invariant_of-self-in-Err : goal.invariant_of-self-in-Err
invariant_of-self-in-Err g c =
    let gap = missed g.K.Ord.cmp (g.Q.Probe.sought c.args.key.now) c.self.inside.items.items _ _ c.in-Err.at c.search.ensures c.deref.ensures.value c.in-Err.is in
    let new = put_gap g.K.Ord.cmp (g.Q.Probe.sought c.args.key.now) c.args.value c.self.inside.items.items c.in-Err.at gap in
    rw (c.in_ok-insert-in-Err.ensures.items, c.in_ok-new-in-Err.ensures, ← new) (is_sorted-put g.K.Ord.cmp g.met.K.Ord.total (g.Q.Probe.sought c.args.key.now) c.args.value _ c.self.invariant)

pub returns-in_err-insert-in-Err-clause-known : goal.returns-in_err-insert-in-Err-clause-known
returns-in_err-insert-in-Err-clause-known g c known =
    let gap = missed g.K.Ord.cmp (g.Q.Probe.sought c.args.key.now) c.self.inside.items.items _ _ c.in-Err.at c.search.ensures c.deref.ensures.value c.in-Err.is in
    let none = find_gap g.K.Ord.cmp (g.Q.Probe.sought c.args.key.now) g.met.K.Ord.total c.self.inside.items.items c.in-Err.at c.self.invariant gap in
    grind (arith, none, c.self.view_is)

pub returns-in_err-new-in-Err-clause-known : goal.returns-in_err-new-in-Err-clause-known
returns-in_err-new-in-Err-clause-known g c known =
    let gap = missed g.K.Ord.cmp (g.Q.Probe.sought c.args.key.now) c.self.inside.items.items _ _ c.in-Err.at c.search.ensures c.deref.ensures.value c.in-Err.is in
    let none = find_gap g.K.Ord.cmp (g.Q.Probe.sought c.args.key.now) g.met.K.Ord.total c.self.inside.items.items c.in-Err.at c.self.invariant gap in
    grind (arith, none, c.self.view_is)
