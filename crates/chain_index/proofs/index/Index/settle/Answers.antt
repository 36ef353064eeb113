use Rattle.std.proofs.Common.{◌∙◌, ap, sym, subst}
use Rattle.chain_index.specs.declared.parts.Sizes.{Sizes}
use Rattle.chain_index.specs.Contents.{Indexed}
use Rattle.chain_index.specs.PartsSupport.{IsIndex, indexed}
use Rattle.chain_index.proofs.PartsLemmas.{index_settled, view_settled}
use Rattle.chain_index.proofs.index.Index.settle.Goals as goal

pub invariant_of-self : goal.invariant_of-self
invariant_of-self c =
    let s = c.self.inside in
    subst (λ (z : Sizes). IsIndex c.settle.new.self z) (sym c.sizes-self-inside.ensures)
    (index_settled s.parts c.settle.new.self s.settled c.self.invariant c.settle.ensures.same c.settle.ensures.leaving c.settle.ensures.known c.settle.ensures.known_datums)

pub returns : goal.returns
returns c =
    let s = c.self.inside in
    ap (λ (z : Sizes). indexed c.settle.new.self z) c.sizes-self-inside.ensures ∙ view_settled s.parts c.settle.new.self c.settle.ensures.same
    ∙ ap (λ (x : Indexed). let y : Indexed = record x { settled = x.present } in y) c.self.view_is
