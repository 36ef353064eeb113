use Rattle.std.proofs.Common.{◌≡◌, ◌+◌, ◌+ℤ◌, pos, drop, arith, sym, ◌∙◌, ap}
use Rattle.std.proofs.lemmas.Int.{ints}
use Rattle.std.specs.Ordering.{int_eq}
use Rattle.eutxo.specs.ChangesSupport.{goes_on, uneven}
use Rattle.eutxo.proofs.ChangesLemmas.{uneven_on, uneven_next}
use Rattle.eutxo.proofs.preserved.first_uneven.Goals.{then-not-goes_on+else-not-eq, else-not-goes_on}
use Rattle.eutxo.proofs.preserved.first_uneven.Goals as goal

pub loop-at-preserved : goal.loop-at-preserved
loop-at-preserved c =
    let rest = drop (c.loop-at.at + 1) c.args.changes.now in
    let more : c.add.new.self ≡ c.loop-at.total +ℤ c.index-changes-at.result.1 = omega (arith, ints) in
    let on : goes_on c.index-changes-at.result.0 rest ≡ c.goes_on.result = ap (λ t. goes_on t rest) (sym c.token.ensures) ∙ sym c.goes_on.ensures in
    elim c.if-not-goes_on.branch [
      | then-not-goes_on+else-not-eq w ↦
          let zero : c.if-not-goes_on.total ≡ pos 0 = w.total-is ∙ w.zero-total-then-not-goes_on.ensures in
          record {
            rest =
                c.loop-at.invariant.rest
                ∙ uneven_next c.loop-at.total c.add.new.self c.args.changes.now c.loop-at.at c.index-changes-at.result c.loop-at-test.true c.index-changes-at.is more (on ∙ w.if-not-goes_on.true)
                (ap (int_eq c.add.new.self) (sym w.zero.ensures) ∙ sym w.eq.ensures ∙ w.if-not-eq.false)
                ∙ ap (λ z. uneven z rest) (sym zero);
            low = omega (arith, ints);
            high = omega (arith, ints);
          }
      | else-not-goes_on w ↦
          record {
            rest =
                c.loop-at.invariant.rest
                ∙ uneven_on c.loop-at.total c.if-not-goes_on.total c.args.changes.now c.loop-at.at c.index-changes-at.result c.loop-at-test.true c.index-changes-at.is (w.total-is ∙ more) (on ∙ w.if-not-goes_on.false);
            low = omega (arith, ints);
            high = omega (arith, ints);
          }
    ]
