use Rattle.std.proofs.Common.{◌∙◌, ap, sym, subst}
use Rattle.chain_index.specs.Contents.{Indexed}
use Rattle.chain_index.specs.PartsSupport.{Parts, IsIndex, indexed}
use Rattle.chain_index.proofs.PartsLemmas.{index_cut, view_cut}
use Rattle.chain_index.proofs.index.Index.cut.Goals as goal

pub invariant_of-self : goal.invariant_of-self
invariant_of-self c = let s = c.self.inside in subst (λ (p : Parts). IsIndex p s.settled) (sym c.back.ensures) (index_cut s.parts s.settled c.self.invariant)

pub returns : goal.returns
returns c =
    let s = c.self.inside in
    ap (λ (p : Parts). indexed p s.settled) c.back.ensures ∙ view_cut s.parts s.settled ∙ ap (λ (x : Indexed). let y : Indexed = record x { present = x.settled } in y) c.self.view_is
