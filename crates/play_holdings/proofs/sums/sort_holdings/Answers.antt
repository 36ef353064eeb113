use Rattle.std.proofs.Common.{is_lt, rules}
use Rattle.std.proofs.lemmas.List.Sorted.{answers_always, ranks_by}
use Rattle.play_holdings.specs.Holders.{holding_cmp}
use Rattle.play_holdings.proofs.HolderLemmas.{holding_total}
use Rattle.play_holdings.proofs.SortedLemmas.{never_fall}
use Rattle.play_holdings.proofs.sums.sort_holdings.Goals as goal

pub returns-clause-sorted : goal.returns-clause-sorted
returns-clause-sorted c =
    never_fall c.sort_unstable_by.new.self.items
    (c.sort_unstable_by.ensures.sorted (λ x y. is_lt (holding_cmp x y)) (ranks_by holding_total (λ h. h)) (answers_always _ _ _ (λ f a r n h. search rules)))
