use Rattle.semantics.specs.Evaluation.Path.{waits_for}
use Rattle.semantics.specs.Evaluation.Parts.{case_tree_of}
use Rattle.next_inputs.proofs.Shares.{offers_step}
use Rattle.next_inputs.proofs.cases.offers_of.Goals as goal

pub loop-share-preserved : goal.loop-share-preserved
loop-share-preserved g c =
    let S = g.S.Parts in
    let o = c.args.parts.now in
    let v = c.loop-share.invariant in
    let q = offers_step c.args.interval c.args.state.now (waits_for (S.tree o c.args.place)) c.loop-share.yielded c.len.result (case_tree_of (S.tree o) (S.value_tree o) (S.observation_tree o) c.case-case.result) c.in-Some.share c.offer.result
    c.loop-share.offers c.push.new.self v.many c.len.ensures c.case-case.ensures.tree v.offers c.offer.ensures c.in_ok-push.ensures.added in
    record { many = q.0; offers = q.1 }
