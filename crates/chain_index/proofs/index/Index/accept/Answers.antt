use Rattle.std.proofs.Common.{◌∙◌, ap, sym, subst}
use Rattle.chain_index.specs.Contents.{Indexed, accepting, CanBeAdded}
use Rattle.chain_index.specs.PartsSupport.{Parts, IsIndex}
use Rattle.chain_index.proofs.PartsLemmas.{index_after, view_after, with_ok, either_way}
use Rattle.chain_index.proofs.index.Index.accept.Goals as goal

pub invariant_of-self : goal.invariant_of-self
invariant_of-self c =
    let s = c.self.inside in
    let can = subst (λ (x : Indexed). CanBeAdded x.present c.args.tx.now) (sym c.self.view_is) c.requires.can in
    either_way c.grow.result c.grow.ensures.ok c.grow.ensures.grown c.grow.ensures.err
    (λ takes grown. index_after s.parts c.grow.new.self s.settled c.args.tx.now c.self.invariant can takes grown)
    (λ same. subst (λ (p : Parts). IsIndex p s.settled) (sym same) c.self.invariant)

pub returns-clause-ok : goal.returns-clause-ok
returns-clause-ok c =
    let s = c.self.inside in
    let tx = c.args.tx.now in
    let can = subst (λ (x : Indexed). CanBeAdded x.present tx) (sym c.self.view_is) c.requires.can in
    with_ok c.grow.result c.grow.ensures.ok c.grow.ensures.grown
    (λ takes grown. view_after s.parts c.grow.new.self s.settled tx c.self.invariant can takes grown ∙ ap (λ (x : Indexed). let y : Indexed = record x { present = accepting x.present tx } in y) c.self.view_is)
