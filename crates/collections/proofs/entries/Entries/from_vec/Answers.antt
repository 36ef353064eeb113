use Rattle.std.proofs.Common.{is_lt, rules}
use Rattle.std.proofs.lemmas.Bool.{both_ways}
use Rattle.std.proofs.lemmas.List.Sorted.{answers_always, ranks_by, IsPermutation-sym}
use Rattle.collections.specs.Repeats.{has_repeat}
use Rattle.collections.proofs.Repeats.{rising, falling, sorted_apart, no_repeat-permutation, find-permutation}
use Rattle.collections.proofs.entries.Entries.from_vec.Goals as goal

pub invariant_of-result : goal.invariant_of-result
invariant_of-result g c =
    rising g.K.Ord.cmp g.met.K.Ord.total c.sort_unstable_by.new.self.items c.deref.result.now c.rises.result c.rises.ensures c.deref.ensures.value c.if-rises.true

pub returns-then-rises-clause-unique : goal.returns-then-rises-clause-unique
returns-then-rises-clause-unique g c =
    let xs = c.args.entries.items in
    let ys = c.sort_unstable_by.new.self.items in
    let apart = sorted_apart g.K.Ord.cmp g.met.K.Ord.total ys (rising g.K.Ord.cmp g.met.K.Ord.total ys c.deref.result.now c.rises.result c.rises.ensures c.deref.ensures.value c.if-rises.true) in
    (λ _. no_repeat-permutation g.K.Ord.cmp g.met.K.Ord.total ys xs (IsPermutation-sym xs ys c.sort_unstable_by.ensures.permutation) apart, λ _. cc)

pub returns-then-rises-clause-found : goal.returns-then-rises-clause-found
returns-then-rises-clause-found g c = λ key.
    let xs = c.args.entries.items in
    let ys = c.sort_unstable_by.new.self.items in
    let apart = sorted_apart g.K.Ord.cmp g.met.K.Ord.total ys (rising g.K.Ord.cmp g.met.K.Ord.total ys c.deref.result.now c.rises.result c.rises.ensures c.deref.ensures.value c.if-rises.true) in
    find-permutation g.K.Ord.cmp g.met.K.Ord.total xs ys c.sort_unstable_by.ensures.permutation (no_repeat-permutation g.K.Ord.cmp g.met.K.Ord.total ys xs (IsPermutation-sym xs ys c.sort_unstable_by.ensures.permutation) apart) key

pub returns-then-rises-clause-sorted : goal.returns-then-rises-clause-sorted
returns-then-rises-clause-sorted g c =
    rising g.K.Ord.cmp g.met.K.Ord.total c.sort_unstable_by.new.self.items c.deref.result.now c.rises.result c.rises.ensures c.deref.ensures.value c.if-rises.true

pub returns-else-rises-clause-unique : goal.returns-else-rises-clause-unique
returns-else-rises-clause-unique g c =
    let xs = c.args.entries.items in
    let ys = c.sort_unstable_by.new.self.items in
    let sorted = c.sort_unstable_by.ensures.sorted (λ x y. is_lt (g.K.Ord.cmp x.0 y.0)) (ranks_by g.met.K.Ord.total (λ e. e.0)) (answers_always _ _ _ (λ f a r n h. search rules)) in
    let repeat = falling g.K.Ord.cmp g.met.K.Ord.total ys c.deref.result.now c.rises.result c.rises.ensures c.deref.ensures.value c.if-rises.false sorted in
    (λ h. cc, λ h. absurd (both_ways (has_repeat g.K.Ord.cmp ys) (no_repeat-permutation g.K.Ord.cmp g.met.K.Ord.total xs ys c.sort_unstable_by.ensures.permutation h) repeat))
