use Rattle.std.proofs.Common.{◌+◌, ◌≤◌, List, drop, length, sym, ◌∙◌, subst, arith}
use Rattle.ledger_spec.specs.EutxoTypes.declared.spend.Spend.{Spend}
use Rattle.chain_index.proofs.MoveLemmas.{AreMoving, first_unmoved, next_moving, not_moving, none_moving, same_moving}
use Rattle.chain_index.proofs.additions.move_all.Goals.{then-is_step+then-count-places+in_ok-move_one, then-is_step+else-count-places, else-is_step}
use Rattle.chain_index.proofs.additions.move_all.Goals as goal

pub move_one-requires-clause-unmoved : goal.move_one-requires-clause-unmoved
move_one-requires-clause-unmoved c =
    let old = c.args.moves.now.entries in
    let ms = c.loop-x.moves.entries in
    let i = c.loop-x.x-index in
    let k = c.loop-x.count in
    first_unmoved old ms c.as_slice-x-items.result.now i k c.x-item.result c.loop-x-test.true c.x-item.is
    (subst (λ (l : List Spend). AreMoving c.args.number c.args.tx.now c.args.places.now old ms (drop i l) k) (sym c.as_slice-x-items.ensures) c.loop-x.invariant)

pub loop-x-preserved : goal.loop-x-preserved
loop-x-preserved c =
    let old = c.args.moves.now.entries in
    let ms = c.loop-x.moves.entries in
    let more = c.if-is_step.moves.entries in
    let xs = c.as_slice-x-items.result.now in
    let i = c.loop-x.x-index in
    let k = c.loop-x.count in
    let x = c.x-item.result in
    let h = subst (λ (l : List Spend). AreMoving c.args.number c.args.tx.now c.args.places.now old ms (drop i l) k) (sym c.as_slice-x-items.ensures) c.loop-x.invariant in
    subst (λ (l : List Spend). AreMoving c.args.number c.args.tx.now c.args.places.now old more (drop (i + 1) l) c.if-is_step.count) c.as_slice-x-items.ensures
    (elim c.if-is_step.branch [
      | then-is_step+then-count-places+in_ok-move_one w ↦
          let taken = next_moving old ms w.move_one.new.moves.entries xs i k x c.loop-x-test.true c.x-item.is (sym c.is_step.ensures ∙ w.if-is_step.true) w.if-count-places.true w.in_ok-move_one.ensures.ok h in
          same_moving old w.move_one.new.moves.entries more (drop (i + 1) xs) (k + 1) c.if-is_step.count (λ j. (w.moves-is j).entries) w.count-is taken
      | then-is_step+else-count-places w ↦
          let all : length c.args.places.now ≤ k = omega (arith, w.if-count-places.false) in
          same_moving old ms more (drop (i + 1) xs) k c.if-is_step.count (λ j. (w.moves-is j).entries) w.count-is (none_moving old ms xs i k x c.loop-x-test.true c.x-item.is all h)
      | else-is_step w ↦
          same_moving old ms more (drop (i + 1) xs) k c.if-is_step.count (λ j. (w.moves-is j).entries) w.count-is
          (not_moving old ms xs i k x c.loop-x-test.true c.x-item.is (sym c.is_step.ensures ∙ w.if-is_step.false) h)
    ])
