use Rattle.std.proofs.Common.{◌≡◌, List, length, subst}
use Rattle.definitions.specs.declared.definition.Definition.{Definition}
use Rattle.definitions.proofs.NamedLemmas.{full-names, full-bytes}
use Rattle.definitions.proofs.definitions.Definitions.add.Goals.{then-as_slice-eq-MOST-via-then-as_slice-eq-MOST, then-as_slice-eq-MOST-via-else-as_slice-eq-MOST+then-definition-self}
use Rattle.definitions.proofs.definitions.Definitions.add.Goals as goal

pub returns-then-as_slice-eq-MOST-clause-full : goal.returns-then-as_slice-eq-MOST-clause-full
returns-then-as_slice-eq-MOST-clause-full c = λ is.
    elim c.then-as_slice-eq-MOST.branch [
      | then-as_slice-eq-MOST-via-then-as_slice-eq-MOST w ↦ full-names c.self.inside.items.items c.args.self.now c.args.definition c.self.view_is c.requires (subst (λ (ds : List Definition). length ds ≡ 1000) c.as_slice.ensures.value w.if-as_slice-eq-MOST.true)
      | then-as_slice-eq-MOST-via-else-as_slice-eq-MOST+then-definition-self w ↦ full-bytes c.self.inside.items.items c.args.self.now c.args.definition c.self.inside.bytes c.self.view_is c.requires c.self.invariant.0 w.if-definition-self.true
    ]
