use Rattle.std.proofs.Common.{◌<◌, length, drop, ap, ◌∙◌, arith}
use Rattle.std.proofs.lemmas.List.{drop_all, length-set}
use Rattle.contract.specs.Names.declared.bound.Bound.{Bound}
use Rattle.next_inputs.specs.Claiming.{put}
use Rattle.next_inputs.proofs.Shares.{shares_begin, shares_end, shares_step, by_within}
use Rattle.next_inputs.proofs.sharing.shares_of.Goals as goal

pub loop-claim-init : goal.loop-claim-init
loop-claim-init c = record { each = c.in_ok-shares.ensures.each; so_far = shares_begin c.in_ok-shares.shares.items c.args.settled.now c.in_ok-shares.ensures.shares }

pub loop-claim-preserved : goal.loop-claim-preserved
loop-claim-preserved c =
    let v = c.loop-claim.invariant in
    let within : c.claim-item.result.by < length c.loop-claim.shares.items = rw v.each (by_within c.args.count c.args.settled.now c.loop-claim.claim-index c.claim-item.result c.requires (omega arith) c.claim-item.is) in
    record {
      each = length-set c.loop-claim.shares.items c.claim-item.result.by c.add.new.share ∙ v.each;
      so_far = shares_step c.loop-claim.shares.items c.args.settled.now c.loop-claim.claim-index c.claim-item.result c.index_mut.result.now c.add.new.share (omega arith) c.claim-item.is within c.index_mut.ensures.value
          (c.in_ok-add.ensures ∙ ap (λ (r : Bound). put c.index_mut.result.now r.from r.to) c.range_of-range.ensures) v.so_far;
    }

pub returns-clause-shares : goal.returns-clause-shares
returns-clause-shares c =
    shares_end c.loop-claim.shares.items c.args.settled.now (drop c.loop-claim.claim-index c.args.settled.now) (drop_all c.loop-claim.claim-index c.args.settled.now (omega arith)) c.loop-claim.invariant.so_far
