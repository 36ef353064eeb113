use Rattle.std.proofs.Common.{sym, ◌∙◌, ap, subst}
use Rattle.std.specs.Option.{IfSome}
use Rattle.coin_selection.specs.MissingSupport.{InRange}
use Rattle.coin_selection.proofs.MissingLemmas.{seen, at}
use Rattle.coin_selection.proofs.missing.Missing.new.Goals as goal

pub returns : goal.returns
returns c t = seen c.new.result.entries t ∙ ap (λ es. at es t) c.new.ensures.empty

pub invariant_of-result : goal.invariant_of-result
invariant_of-result c t = subst (λ o. IfSome o InRange) (sym (returns c t)) tt
