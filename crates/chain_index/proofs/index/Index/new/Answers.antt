use Rattle.std.proofs.Common.{◌∙◌, ap, sym, subst}
use Rattle.chain_index.specs.declared.parts.Sizes.{Sizes}
use Rattle.chain_index.specs.PartsSupport.{Parts, sizes_of, IsIndex, indexed}
use Rattle.chain_index.proofs.PartsLemmas.{first_index, first_view}
use Rattle.chain_index.proofs.index.Index.new.Goals as goal

pub invariant_of-result : goal.invariant_of-result
invariant_of-result c =
    subst (λ (z : Sizes). IsIndex c.in_ok-parts.parts z) (sym c.sizes-settled.ensures) (subst (λ (p : Parts). IsIndex p (sizes_of p)) (sym c.in_ok-parts.ensures) (first_index c.args.genesis.now))

pub returns : goal.returns
returns c =
    ap (λ (z : Sizes). indexed c.in_ok-parts.parts z) c.sizes-settled.ensures ∙ ap (λ (p : Parts). indexed p (sizes_of p)) c.in_ok-parts.ensures ∙ first_view c.args.genesis.now
