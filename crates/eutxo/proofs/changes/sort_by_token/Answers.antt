use Rattle.std.proofs.Common.{is_lt, rules}
use Rattle.std.proofs.lemmas.List.Sorted.{answers_always, ranks_by}
use Rattle.contract.specs.Names.Orders.{token_cmp}
use Rattle.contract.specs.Names.Totals.{token_total}
use Rattle.eutxo.proofs.SortedLemmas.{never_falls}
use Rattle.eutxo.proofs.changes.sort_by_token.Goals as goal

pub returns-clause-sorted : goal.returns-clause-sorted
returns-clause-sorted c =
    never_falls c.sort_unstable_by.new.self
    (c.sort_unstable_by.ensures.sorted (λ x y. is_lt (token_cmp x.0 y.0)) (ranks_by token_total (λ e. e.0)) (answers_always _ _ _ (λ f a r n h. search rules)))
