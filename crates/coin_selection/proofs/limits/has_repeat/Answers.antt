use Rattle.std.proofs.Common.{◌≡◌, Bool, true, false, not, refl, sym, ◌∙◌, ap, arith}
use Rattle.std.specs.Prelude.{if◌then◌else◌}
use Rattle.builder_spec.specs.EutxoTypes.Parts.{same_ref}
use Rattle.coin_selection.proofs.ListLaws.{repeat_here, once_here, among_here}
use Rattle.coin_selection.proofs.limits.has_repeat.Goals as goal

is_there : (a b : Bool) → a ≡ not b → a ≡ false → b ≡ true
is_there true b h k = absurd (cc)
is_there false true h k = refl
is_there false false h k = absurd (cc)

is_not : (a b : Bool) → a ≡ not b → a ≡ true → b ≡ false
is_not true true h k = absurd (cc)
is_not true false h k = refl
is_not false b h k = absurd (cc)

pub returns-then-not-fresh : goal.returns-then-not-fresh
returns-then-not-fresh c =
    let r = c.reference_at.result in
    sym (repeat_here c.args.references.now c.loop-i.i r (omega (arith, c.loop-i-test.true)) (omega (arith, c.loop-i.auto.i)) c.reference_at.ensures
    (sym (c.loop-i.invariant.among r) ∙ is_there c.in-Ok.fresh _ c.in-Ok.ensures.fresh c.if-not-fresh.true))

pub loop-i-preserved : goal.loop-i-preserved
loop-i-preserved c =
    let r = c.reference_at.result in
    let n = c.loop-i.i in
    let rs = c.args.references.now in record {
      once = once_here rs n r (omega (arith, c.loop-i-test.true)) (omega (arith, c.loop-i.auto.i)) c.reference_at.ensures
          (sym (c.loop-i.invariant.among r) ∙ is_not c.in-Ok.fresh _ c.in-Ok.ensures.fresh c.if-not-fresh.false) c.loop-i.invariant.once;
      among = λ q. c.in-Ok.ensures.put q ∙ ap (λ b. if same_ref r q then true else b) (c.loop-i.invariant.among q)
          ∙ among_here rs n r q (omega (arith, c.loop-i-test.true)) (omega (arith, c.loop-i.auto.i)) c.reference_at.ensures;
    }
