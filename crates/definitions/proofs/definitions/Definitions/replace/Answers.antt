use Rattle.std.proofs.Common.{◌≡◌, ◌<◌, List, Some, length, true, false, sym, ap, ◌∙◌, subst}
use Rattle.definitions.specs.declared.definition.Definition.{Definition}
use Rattle.definitions.specs.Named.{has_room, put_named}
use Rattle.definitions.specs.NamedSupport.{place_of}
use Rattle.std.proofs.Math.ListN.{set}
use Rattle.definitions.proofs.NamedLemmas.{old-within, place-within, put-at, set-full, set-room, set-sum}
use Rattle.definitions.proofs.definitions.Definitions.replace.Goals as goal

pub overflow_sub-others : goal.overflow_sub-others
overflow_sub-others c =
    let at : place_of c.args.definition.name c.self.inside.items.items ≡ Some c.args.place = subst (λ (ds : List Definition). place_of c.args.definition.name ds ≡ Some c.args.place) (sym c.self.view_is) c.requires in
    old-within c.self.inside.items.items c.args.place c.index.result.now c.self.inside.bytes (place-within c.args.definition.name c.self.inside.items.items c.args.place at) c.index.ensures c.self.invariant.0

pub returns-then-definition-others-clause-full : goal.returns-then-definition-others-clause-full
returns-then-definition-others-clause-full c = λ is.
    let at : place_of c.args.definition.name c.self.inside.items.items ≡ Some c.args.place = subst (λ (ds : List Definition). place_of c.args.definition.name ds ≡ Some c.args.place) (sym c.self.view_is) c.requires in
    let full : has_room (set c.self.inside.items.items c.args.place c.args.definition) ≡ false
    = set-full c.self.inside.items.items c.args.place c.args.definition c.index.result.now c.self.inside.bytes (place-within c.args.definition.name c.self.inside.items.items c.args.place at) c.index.ensures c.self.invariant.0 c.if-definition-others.true in
    subst (λ (ds : List Definition). has_room (put_named c.args.definition ds) ≡ false) c.self.view_is
    (subst (λ (ds : List Definition). has_room ds ≡ false) (sym (put-at c.args.definition c.self.inside.items.items c.args.place at)) full)

pub invariant_of-self : goal.invariant_of-self
invariant_of-self c =
    let at : place_of c.args.definition.name c.self.inside.items.items ≡ Some c.args.place = subst (λ (ds : List Definition). place_of c.args.definition.name ds ≡ Some c.args.place) (sym c.self.view_is) c.requires in
    let below : c.args.place < length c.self.inside.items.items = place-within c.args.definition.name c.self.inside.items.items c.args.place at in
    rw c.replace.ensures.after (
      set-sum c.self.inside.items.items c.args.place c.args.definition c.index.result.now c.self.inside.bytes below c.index.ensures c.self.invariant.0,
      set-room c.self.inside.items.items c.args.place c.args.definition c.index.result.now c.self.inside.bytes below c.index.ensures c.self.invariant.0 c.self.invariant.1 c.if-definition-others.false,
    )

pub returns-clause-ok : goal.returns-clause-ok
returns-clause-ok c =
    let at : place_of c.args.definition.name c.self.inside.items.items ≡ Some c.args.place = subst (λ (ds : List Definition). place_of c.args.definition.name ds ≡ Some c.args.place) (sym c.self.view_is) c.requires in
    let below : c.args.place < length c.self.inside.items.items = place-within c.args.definition.name c.self.inside.items.items c.args.place at in
    let room : has_room (set c.self.inside.items.items c.args.place c.args.definition) ≡ true
    = set-room c.self.inside.items.items c.args.place c.args.definition c.index.result.now c.self.inside.bytes below c.index.ensures c.self.invariant.0 c.self.invariant.1 c.if-definition-others.false in
    let put : set c.self.inside.items.items c.args.place c.args.definition ≡ put_named c.args.definition c.args.self.now
    = sym (put-at c.args.definition c.self.inside.items.items c.args.place at) ∙ ap (put_named c.args.definition) c.self.view_is in
    (ap (set c.self.inside.items.items c.args.place) c.replace.ensures.after ∙ put, subst (λ (ds : List Definition). has_room ds ≡ true) put room)
