use Rattle.std.proofs.Common.{◌≡◌, ◌+◌, sym, ◌∙◌, ap, arith, drop, ℤ, ◌+ℤ◌}
use Rattle.std.proofs.lemmas.Int.{ints}
use Rattle.std.proofs.lemmas.List.{at_drop_more}
use Rattle.bundle.specs.Bundles.{amount_of}
use Rattle.bundle.specs.Totals.{total_of}
use Rattle.bundle.proofs.total.total_of.Goals as goal

regroup : (s a b : ℤ) → s +ℤ (a +ℤ b) ≡ (s +ℤ a) +ℤ b
regroup s a b = omega (arith, ints)

pub loop-item-preserved : goal.loop-item-preserved
loop-item-preserved g c =
    let held = g.A.Holds.held in
    let left = drop (c.loop-item.item-index + 1) c.args.items.now in
    let token = c.args.token.now in
    let e : c.add.new.self ≡ c.loop-item.total +ℤ amount_of (held c.item-item.result) token = omega (arith, ints) in
    record {
      sum =
          c.loop-item.invariant.sum
          ∙ ap (λ (z : ℤ). c.loop-item.total +ℤ z) (at_drop_more (total_of held token) c.args.items.now c.loop-item.item-index c.item-item.result c.loop-item-test.true ∙ ap (λ (x : _). amount_of (held x) token +ℤ total_of held token left) (sym c.item-item.is))
          ∙ regroup c.loop-item.total (amount_of (held c.item-item.result) token) (total_of held token left)
          ∙ ap (λ (z : ℤ). z +ℤ total_of held token left) (sym e);
      low = omega (arith, ints);
      high = omega (arith, ints);
    }
