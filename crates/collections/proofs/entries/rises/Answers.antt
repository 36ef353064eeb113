use Rattle.std.proofs.Common.{is_lt, rules}
use Rattle.std.proofs.lemmas.List.Sorted.{answers_always}
use Rattle.collections.proofs.entries.rises.Goals as goal

pub returns : goal.returns
returns g c = c.is_sorted_by.ensures.cases (λ x y. is_lt (g.K.Ord.cmp x.0 y.0)) (answers_always _ _ _ (λ f a r n h. search rules))
