use Rattle.std.proofs.Common.{◌≡◌, ℕ, ◌+◌, ◌-◌, ◌<◌, ◌≤◌, ◌∷◌, length, drop, sym, subst, arith}
use Rattle.builder_spec.specs.Holding.{wanted}
use Rattle.coin_selection.specs.RequiredSupport.{IsMissing}
use Rattle.coin_selection.proofs.ListLaws.{back}
use Rattle.coin_selection.proofs.RequiredLemmas.{add_more, Within, within_more}
use Rattle.coin_selection.proofs.requirements.add_amounts.Goals as goal

one_before : (l i : ℕ) → 0 < i → i ≤ l → (l - i) + 1 ≡ l - (i - 1)
one_before l i h k = omega arith

pub loop-i-preserved : goal.loop-i-preserved
loop-i-preserved c =
    let ns = c.args.amounts.now in
    let i = c.loop-i.i in
    let n = c.index-amounts-i.result in
    let some : 0 < i = omega (arith, c.loop-i-test.true) in
    let among : i ≤ length ns = omega (arith, c.loop-i.auto.i) in
    let at = back ns i n some among c.index-amounts-i.is in
    let range = c.add_to.ensures.range in record {
      counted = subst (λ ms. IsMissing (wanted ms) c.add_to.new.missing) (sym at) (add_more c.loop-i.missing c.add_to.new.missing (drop i ns) n c.loop-i.invariant.counted (c.loop-i.invariant.within n.0).0 range.0 c.in_ok-add_to.ensures.added);
      within = subst (λ ms. Within ms (length ns - (i - 1))) (sym at) (subst (Within (n ∷ drop i ns)) (one_before (length ns) i some among) (within_more n (drop i ns) (length ns - i) range.0 range.1 c.loop-i.invariant.within));
    }
