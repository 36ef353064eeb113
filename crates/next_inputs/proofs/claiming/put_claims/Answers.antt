use Rattle.std.proofs.Common.{pos, sym, append-nil, arith}
use Rattle.contract.specs.Names.declared.bound.Bound.{Bound}
use Rattle.next_inputs.proofs.Shares.{claims_bound, claims_all}
use Rattle.next_inputs.proofs.claiming.put_claims.Goals as goal

pub loop-bound-init : goal.loop-bound-init
loop-bound-init c = sym (append-nil c.args.claims.now.items)

pub loop-bound-preserved : goal.loop-bound-preserved
loop-bound-preserved c =
    let d : Bound = record { from = pos 0; to = pos 0 } in
    claims_bound c.args.lane c.args.by c.args.bounds.now c.loop-bound.bound-index d c.args.claims.now.items c.loop-bound.claims.items c.put_claim.new.claims.items (omega arith) c.in_ok-put_claim.ensures c.loop-bound.invariant

pub returns : goal.returns
returns c = claims_all c.args.lane c.args.by c.args.bounds.now c.loop-bound.bound-index c.args.claims.now.items c.loop-bound.claims.items c.loop-bound-test.false c.loop-bound.invariant
