use Rattle.std.proofs.Common.{◌≡◌, true, false, get_or, sym, ◌∙◌, subst}
use Rattle.contract.specs.Names.Equal.{same_text}
use Rattle.definitions.proofs.NamedLemmas.{place-here, place-before}
use Rattle.definitions.proofs.definitions.place.Goals as goal

pub returns-then-eq : goal.returns-then-eq
returns-then-eq c =
    let item = c.index-items-place.result in
    let here : same_text (get_or c.args.items.now c.loop-place.place item).name c.args.name.now ≡ true = subst (λ t. same_text t c.args.name.now ≡ true) c.as_str.ensures (sym c.eq.ensures ∙ c.if-eq.true) in
    sym (place-here c.args.name.now c.args.items.now c.loop-place.place item c.loop-place-test.true c.loop-place.invariant here)

pub loop-place-preserved : goal.loop-place-preserved
loop-place-preserved c =
    let item = c.index-items-place.result in
    let here : same_text (get_or c.args.items.now c.loop-place.place item).name c.args.name.now ≡ false = subst (λ t. same_text t c.args.name.now ≡ false) c.as_str.ensures (sym c.eq.ensures ∙ c.if-eq.false) in
    place-before c.args.name.now c.args.items.now c.loop-place.place item c.loop-place-test.true c.loop-place.invariant here
