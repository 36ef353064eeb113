use Rattle.std.proofs.Common.{pos, false, arith, Bool}
use Rattle.claims.specs.declared.claim.Claim.{Claim}
use Rattle.analysis_steps.proofs.ChosenLemmas.{claimed_none, claimed_on, claimed_all}
use Rattle.analysis_steps.proofs.choices.hull_of_claims.Goals as goal

pub loop-claim-init : goal.loop-claim-init
loop-claim-init c = claimed_none c.args.claims.now

pub loop-claim-preserved : goal.loop-claim-preserved
loop-claim-preserved c =
    let d : Claim Bool = record { lane = false; from = pos 0; to = pos 0; by = 0 } in
    claimed_on c.args.claims.now c.loop-claim.claim-index d c.loop-claim.range c.wider_by-range.result (omega arith) c.loop-claim.invariant c.wider_by-range.ensures

pub returns : goal.returns
returns c = claimed_all c.args.claims.now c.loop-claim.claim-index c.loop-claim.range (omega arith) c.loop-claim.invariant
