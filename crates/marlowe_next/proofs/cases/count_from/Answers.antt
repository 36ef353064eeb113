use Rattle.std.proofs.Common.{length, take, arith}
use Rattle.marlowe_run.specs.Semantics.Evaluation.Path.{waits_for}
use Rattle.marlowe_next.specs.Applicable.{applicable_from}
use Rattle.marlowe_next.proofs.CasesLemmas.{counted_more, counted_all}
use Rattle.marlowe_next.proofs.cases.count_from.Goals as goal

pub loop-index-init : goal.loop-index-init
loop-index-init g c = record { counted = λ refused. omega arith; below = omega arith }

pub loop-index-preserved : goal.loop-index-preserved
loop-index-preserved g c =
    let tree = g.S.Parts.tree c.args.parts.now c.args.place in
    let fs = c.args.offers.now in
    let n = c.args.first in
    record {
      counted =
          λ refused.
          counted_more tree fs c.loop-index.index c.index-offers-index.result (length (applicable_from refused 0 (take n (waits_for tree)) (take n fs))) c.loop-index.count c.count_case-one.result c.requires.each c.loop-index-test.true c.index-offers-index.is
          c.count_case-one.ensures.counts refused (c.loop-index.invariant.counted refused);
      below = omega arith;
    }

pub returns : goal.returns
returns g c =
    let tree = g.S.Parts.tree c.args.parts.now c.args.place in
    λ refused.
    counted_all refused (waits_for tree) c.args.offers.now c.loop-index.index (length (applicable_from refused 0 (take c.args.first (waits_for tree)) (take c.args.first c.args.offers.now))) c.loop-index.count
    (c.loop-index.invariant.counted refused) c.loop-index-test.false c.requires.each
