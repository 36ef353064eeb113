use Rattle.std.proofs.Common.{sym, ◌∙◌, ap, subst, pos, ◌≤ℤ◌}
use mir.Syntax.{w128}
use Rattle.std.proofs.Math.Dec.{T}
use Rattle.std.proofs.Math.Facts.{to_z-of_z}
use Rattle.std.specs.FinMap.{from_sorted, is_sorted}
use Rattle.names.proofs.FromCollections.Places.{third}
use Rattle.names.specs.Orders.{token_cmp}
use Rattle.bundle.specs.Bundles.{is_large, any_large}
use Rattle.bundle.proofs.LoopLemmas.{large_now, large_later}
use Rattle.bundle.proofs.WalkLemmas.{here, none_after, none_after-first, amount_in-natural}
use Rattle.bundle.proofs.ZeroLemmas.{amount_of-from_sorted}
use Rattle.bundle.proofs.adding.any_too_large.Goals as goal

pub is_above-requires : goal.is_above-requires
is_above-requires c =
    subst (λ n. pos 0 ≤ℤ n) (sym (to_z-of_z {w = w128} (record { sfits = c.amount_at.type_inv }) ∙ c.amount_at.ensures)) (amount_in-natural c.args.held.now c.entry-item.result.0 c.requires.positive)

pub returns-then-is_above : goal.returns-then-is_above
returns-then-is_above c =
    let left = here c.args.more.now c.loop-entry.entry-index c.entry-item.result c.loop-entry-test.true c.entry-item.is in
    let amount = to_z-of_z {w = w128} (record { sfits = c.amount_at.type_inv }) ∙ c.amount_at.ensures ∙ sym (amount_of-from_sorted c.args.held.now c.entry-item.result.0 c.requires.sorted) in
    sym (sym c.loop-entry.invariant.rest ∙ ap (any_large (from_sorted c.args.held.now)) left
    ∙ large_now _ c.entry-item.result _ (ap (λ n. is_large n c.entry-item.result.1) (sym amount) ∙ sym c.is_above.ensures ∙ c.if-is_above.true))

pub loop-entry-preserved : goal.loop-entry-preserved
loop-entry-preserved c =
    let left = here c.args.more.now c.loop-entry.entry-index c.entry-item.result c.loop-entry-test.true c.entry-item.is in
    let amount = to_z-of_z {w = w128} (record { sfits = c.amount_at.type_inv }) ∙ c.amount_at.ensures ∙ sym (amount_of-from_sorted c.args.held.now c.entry-item.result.0 c.requires.sorted) in
    let sorted = subst (λ es. T (is_sorted token_cmp es)) left c.loop-entry.invariant.sorted in
    record {
      rest =
          large_later _ c.entry-item.result _ (ap (λ n. is_large n c.entry-item.result.1) (sym amount) ∙ sym c.is_above.ensures ∙ c.if-is_above.false)
          ∙ ap (any_large (from_sorted c.args.held.now)) (sym left) ∙ c.loop-entry.invariant.rest;
      within = c.skip_before-at.ensures.within;
      before = none_after-first c.entry-item.result _ _ sorted (none_after c.entry-item.result.0 _ c.skip_before-at.ensures.before);
      sorted = third _ _ sorted;
    }
