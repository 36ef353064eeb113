use Rattle.std.proofs.Common.{refl}
use Rattle.next_inputs.proofs.Shares.{none_pushed}
use Rattle.next_inputs.proofs.sharing.no_shares.Goals as goal

pub loop-index-init : goal.loop-index-init
loop-index-init c = rw c.in_ok-shares.ensures.items (record { each = refl; none = λ n bs e. absurd (cc) })

pub loop-index-preserved : goal.loop-index-preserved
loop-index-preserved c =
    let v = c.loop-index.invariant in
    let q = none_pushed c.loop-index.shares.items c.push.new.self.items c.new.result c.loop-index.index c.new.ensures c.in_ok-push.ensures.items v.each v.none in
    record { each = q.0; none = q.1 }
