use Rattle.std.proofs.Common.{sym, ◌∙◌, ap, subst}
use mir.Syntax.{w128}
use Rattle.std.proofs.Math.Dec.{T}
use Rattle.std.proofs.Math.Facts.{to_z-of_z}
use Rattle.std.specs.Prelude.{int_lt}
use Rattle.std.specs.FinMap.{from_sorted, is_sorted}
use Rattle.names.proofs.FromCollections.Places.{third}
use Rattle.names.specs.Orders.{token_cmp}
use Rattle.bundle.specs.Bundles.{first_short}
use Rattle.bundle.proofs.LoopLemmas.{short_now, short_later}
use Rattle.bundle.proofs.WalkLemmas.{here, none_after, none_after-first}
use Rattle.bundle.proofs.ZeroLemmas.{amount_of-from_sorted}
use Rattle.bundle.proofs.taking.first_short.Goals as goal

pub returns-then-is_short : goal.returns-then-is_short
returns-then-is_short c =
    let left = here c.args.wanted.now c.loop-entry.entry-index c.entry-item.result c.loop-entry-test.true c.entry-item.is in
    let amount = to_z-of_z {w = w128} (record { sfits = c.amount_at.type_inv }) ∙ c.amount_at.ensures ∙ sym (amount_of-from_sorted c.args.held.now c.entry-item.result.0 c.requires.sorted) in
    sym (sym c.loop-entry.invariant.rest ∙ ap (first_short (from_sorted c.args.held.now)) left
    ∙ short_now _ c.entry-item.result _ (ap (λ n. int_lt n c.entry-item.result.1) (sym amount) ∙ sym c.is_short.ensures ∙ c.if-is_short.true))

pub loop-entry-preserved : goal.loop-entry-preserved
loop-entry-preserved c =
    let left = here c.args.wanted.now c.loop-entry.entry-index c.entry-item.result c.loop-entry-test.true c.entry-item.is in
    let amount = to_z-of_z {w = w128} (record { sfits = c.amount_at.type_inv }) ∙ c.amount_at.ensures ∙ sym (amount_of-from_sorted c.args.held.now c.entry-item.result.0 c.requires.sorted) in
    let sorted = subst (λ es. T (is_sorted token_cmp es)) left c.loop-entry.invariant.sorted in
    record {
      rest =
          short_later _ c.entry-item.result _ (ap (λ n. int_lt n c.entry-item.result.1) (sym amount) ∙ sym c.is_short.ensures ∙ c.if-is_short.false)
          ∙ ap (first_short (from_sorted c.args.held.now)) (sym left) ∙ c.loop-entry.invariant.rest;
      within = c.skip_before-at.ensures.within;
      before = none_after-first c.entry-item.result _ _ sorted (none_after c.entry-item.result.0 _ c.skip_before-at.ensures.before);
      sorted = third _ _ sorted;
    }
