use Rattle.std.proofs.Common.{◌∙◌}
use Rattle.std.proofs.lemmas.Result.{err_from_is_err_and}
use Rattle.evaluation.specs.Path.{waits_for}
use Rattle.semantics.specs.Computed.{first_match}
use Rattle.semantics.proofs.Finding.{fits_past, first_past, place_past, found_here, place_here, fault_here}
use Rattle.semantics.proofs.inputs.matching_case.Goals as goal

pub returns-in_err-matches-clause-reply : goal.returns-in_err-matches-clause-reply
returns-in_err-matches-clause-reply g c =
    let p = err_from_is_err_and c.from_residual.result c.from_residual.ensures.1 in
    let i = c.args.interval in
    let s = c.args.state.now in
    let x = c.args.input.now in
    let ks = waits_for (g.S.Parts.tree c.args.parts.now c.args.place) in
    rw (p.1, p.2) (fault_here i s x ks c.loop-index.index _ c.case-case.ensures.tree _ _ (first_match i s x ks) c.in_err-matches.ensures c.loop-index.invariant.fits)

pub returns-then-branch-clause-reply : goal.returns-then-branch-clause-reply
returns-then-branch-clause-reply g c =
    let i = c.args.interval in
    let s = c.args.state.now in
    let x = c.args.input.now in
    let ks = waits_for (g.S.Parts.tree c.args.parts.now c.args.place) in
    let q = rw c.if-branch.true at c.in_ok-matches.ensures in
    found_here i s x ks c.loop-index.index _ c.case-case.ensures.tree (first_match i s x ks) q c.loop-index.invariant.fits c.loop-index.invariant.first

pub returns-then-branch-clause-place : goal.returns-then-branch-clause-place
returns-then-branch-clause-place g c =
    let i = c.args.interval in
    let s = c.args.state.now in
    let x = c.args.input.now in
    let ks = waits_for (g.S.Parts.tree c.args.parts.now c.args.place) in
    let q = rw c.if-branch.true at c.in_ok-matches.ensures in
    let k = c.case-case.ensures.stands in
    (k.then, rw (place_here i s x ks c.loop-index.index _ c.case-case.ensures.tree q c.loop-index.invariant.place) k.enters)

pub loop-index-preserved : goal.loop-index-preserved
loop-index-preserved g c =
    let i = c.args.interval in
    let s = c.args.state.now in
    let x = c.args.input.now in
    let ks = waits_for (g.S.Parts.tree c.args.parts.now c.args.place) in
    let q = rw c.if-branch.false at c.in_ok-matches.ensures in
    record {
      fits = c.loop-index.invariant.fits ∙ fits_past i s x ks c.loop-index.index _ c.case-case.ensures.tree q;
      first = c.loop-index.invariant.first ∙ first_past i s x ks c.loop-index.index _ c.case-case.ensures.tree q;
      place = place_past i s x ks c.loop-index.index _ c.case-case.ensures.tree q c.loop-index.invariant.place;
    }
