use Rattle.contract.specs.Tree.{observation_tree}
use Rattle.analysis_values.proofs.TruthLemmas.{decides_at_once, decides_in_view, observes_in_view}
use Rattle.analysis_values.proofs.observed.observe.Goals as goal

pub returns-clause-branches : goal.returns-clause-branches
returns-clause-branches c =
    let k = c.args.known.now in
    let p = rw (c.view-seen.ensures, c.in_ok-symbols.ensures, c.symbols.ensures) at c.in_ok-truths.ensures in
    let e = rw c.view-seen.ensures at c.in_ok-if_true.ensures in
    let f = rw c.view-seen.ensures at c.in_ok-if_false.ensures in
    decides_in_view k (observation_tree c.args.observation.now) c.in_ok-truths.truths.if_true c.in_ok-truths.truths.if_false c.in_ok-if_true.if_true c.in_ok-if_false.if_false e f (decides_at_once k.view k.symbols c.truth_in.new.symbols (observation_tree c.args.observation.now) c.in_ok-truths.truths.if_true c.in_ok-truths.truths.if_false p.truths)

pub returns-clause-conclusion : goal.returns-clause-conclusion
returns-clause-conclusion c =
    let k = c.args.known.now in
    let p = rw (c.view-seen.ensures, c.in_ok-symbols.ensures, c.symbols.ensures) at c.in_ok-truths.ensures in
    let e = rw c.view-seen.ensures at c.in_ok-if_true.ensures in
    let f = rw c.view-seen.ensures at c.in_ok-if_false.ensures in
    observes_in_view k (observation_tree c.args.observation.now) c.in_ok-truths.truths.if_true c.in_ok-truths.truths.if_false c.in_ok-if_true.if_true c.in_ok-if_false.if_false e f (decides_at_once k.view k.symbols c.truth_in.new.symbols (observation_tree c.args.observation.now) c.in_ok-truths.truths.if_true c.in_ok-truths.truths.if_false p.truths) c.in_ok-truths.truths.fits p.fits
