use Rattle.std.proofs.Common.{◌≡◌, ◌<◌, List, Some, length, sym, subst}
use Rattle.definitions.specs.declared.definition.Definition.{Definition}
use Rattle.definitions.specs.NamedSupport.{place_of}
use Rattle.definitions.proofs.NamedLemmas.{old-within, place-within, remove-room, remove-sum}
use Rattle.definitions.proofs.definitions.Definitions.forget.Goals as goal

pub overflow_sub-self : goal.overflow_sub-self
overflow_sub-self c =
    let at : place_of c.args.name.now c.self.inside.items.items ≡ Some c.in-Some.place = subst (λ (ds : List Definition). place_of c.args.name.now ds ≡ Some c.in-Some.place) c.deref.ensures.value (sym c.in-Some.ensures) in
    old-within c.self.inside.items.items c.in-Some.place c.remove-definition.result c.self.inside.bytes (place-within c.args.name.now c.self.inside.items.items c.in-Some.place at) c.remove-definition.ensures.value c.self.invariant.0

pub invariant_of-self : goal.invariant_of-self
invariant_of-self c =
    let at : place_of c.args.name.now c.self.inside.items.items ≡ Some c.in-Some.place = subst (λ (ds : List Definition). place_of c.args.name.now ds ≡ Some c.in-Some.place) c.deref.ensures.value (sym c.in-Some.ensures) in
    let below : c.in-Some.place < length c.self.inside.items.items = place-within c.args.name.now c.self.inside.items.items c.in-Some.place at in
    rw c.remove-definition.ensures.items (
      remove-sum c.self.inside.items.items c.in-Some.place c.remove-definition.result c.self.inside.bytes below c.remove-definition.ensures.value c.self.invariant.0,
      remove-room c.self.inside.items.items c.in-Some.place c.remove-definition.result c.self.inside.bytes below c.remove-definition.ensures.value c.self.invariant.0 c.self.invariant.1,
    )
