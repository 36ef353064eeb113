use Rattle.std.proofs.Common.{◌≡◌, sym, arith}
use Rattle.collections.proofs.Halving.{smaller_from, greater_from, search_from, search-gap}
use Rattle.collections.proofs.entries.search.Goals as goal

pub loop-low-preserved-in-Less : goal.loop-low-preserved-in-Less
loop-low-preserved-in-Less g c = record {
  order = omega arith;
  within = omega arith;
  smaller = c.loop-low.invariant.smaller;
  greater = greater_from g.K.Ord.cmp g.met.K.Ord.total (g.Q.Probe.sought c.args.key.now) c.args.entries.now _ _ c.requires (omega arith) c.index-entries-middle.is (sym c.in-Less.ensures);
}

pub loop-low-preserved : goal.loop-low-preserved
loop-low-preserved g c = record {
  order = omega arith;
  within = omega arith;
  smaller = smaller_from g.K.Ord.cmp g.met.K.Ord.total (g.Q.Probe.sought c.args.key.now) c.args.entries.now _ _ c.requires (omega arith) c.index-entries-middle.is (sym c.in-Greater.ensures);
  greater = c.loop-low.invariant.greater;
}

pub returns-in-Equal : goal.returns-in-Equal
returns-in-Equal g c = sym (search_from g.K.Ord.cmp g.met.K.Ord.total (g.Q.Probe.sought c.args.key.now) c.args.entries.now _ _ c.requires (omega arith) c.index-entries-middle.is (sym c.in-Equal.ensures))

pub returns : goal.returns
returns g c =
    let end : c.loop-low.low ≡ c.loop-low.high = omega arith in
    sym (search-gap g.K.Ord.cmp (g.Q.Probe.sought c.args.key.now) c.args.entries.now c.loop-low.low (omega arith) c.loop-low.invariant.smaller (rw end c.loop-low.invariant.greater))
