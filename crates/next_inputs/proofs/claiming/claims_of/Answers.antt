use Rattle.std.proofs.Common.{arith}
use Rattle.semantics.specs.Evaluation.Path.{waits_for}
use Rattle.semantics.specs.Evaluation.Parts.{case_tree_of}
use Rattle.next_inputs.specs.Claiming.{lane_of}
use Rattle.next_inputs.proofs.Stopping.{claims_none, claims_next, claims_whole, lane_way}
use Rattle.next_inputs.proofs.claiming.claims_of.Goals as goal

pub loop-index-init : goal.loop-index-init
loop-index-init g c = rw c.new-claims.ensures.items (claims_none c.args.interval c.args.state.now)

pub loop-index-preserved : goal.loop-index-preserved
loop-index-preserved g c =
    let S = g.S.Parts in
    let o = c.args.parts.now in
    let ks = waits_for (S.tree o c.args.place) in
    let w = c.case-case.result.action in
    claims_next c.args.interval c.args.state.now ks c.loop-index.index (case_tree_of (S.tree o) (S.value_tree o) (S.observation_tree o) c.case-case.result) (lane_of w) c.loop-index.claims.items c.claim.new.claims.items c.case-case.ensures.tree
    (lane_way (S.value_tree o) (S.observation_tree o) w) c.in_ok-claim.ensures c.loop-index.invariant

pub returns : goal.returns
returns g c = claims_whole c.args.interval c.args.state.now (waits_for (g.S.Parts.tree c.args.parts.now c.args.place)) c.loop-index.index c.loop-index.claims.items (omega arith) c.loop-index.invariant
