use Rattle.std.proofs.Common.{refl, string_bytes}
use Rattle.play_objects.specs.HoldingObjects.{holding_object, holding_objects}
use Rattle.play_objects.proofs.PieceLemmas.{item_more}
use Rattle.play_objects.proofs.holdings.holding_objects.Goals as goal

-- one holding more
pub loop-holding-preserved : goal.loop-holding-preserved
loop-holding-preserved c =
    let ts = c.args.threads.now in
    item_more (λ hs. holding_objects ts hs) (λ h. holding_object ts h) (λ x xs. refl) c.args.holdings.now c.loop-holding.holding-index c.holding-item.result (string_bytes c.loop-holding.out) (string_bytes c.put_holding.new.out) _
    c.loop-holding-test.true c.holding-item.is c.in_ok-put_holding.ensures c.loop-holding.invariant
