use Rattle.std.proofs.Common.{rules}
use Rattle.std.proofs.lemmas.List.Elements.{filter_from_retain}
use Rattle.std.specs.Ordering.{int_eq}
use Rattle.std.specs.Prelude.{not, pos}
use Rattle.bundle.proofs.taking.drop_zeros.Goals as goal

pub returns : goal.returns
returns c = filter_from_retain _ (λ e. not (int_eq e.1 (pos 0))) (λ f e b g called. search rules) _ _ _ c.retain.ensures.filtered
