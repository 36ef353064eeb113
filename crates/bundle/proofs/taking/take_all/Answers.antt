use Rattle.std.proofs.Common.{◌≡◌, ℕ, List, length, take, drop, ◌++◌, sym, ◌∙◌, ap, subst, arith}
use Rattle.std.proofs.Math.Dec.{T}
use Rattle.std.proofs.Math.Seq.{take-append_seam}
use Rattle.std.specs.FinMap.{is_sorted}
use Rattle.names.specs.Orders.{token_cmp}
use Rattle.bundle.specs.Bundles.{AllPositive}
use Rattle.bundle.specs.WalksSupport.{without_zeros}
use Rattle.bundle.proofs.ZeroLemmas.{sorted-without_zeros, positive-without_zeros}
use Rattle.bundle.proofs.taking.take_all.Goals as goal

front : {X : Type 0} (n : ℕ) (xs ys : List X) → length xs ≡ n → take n (xs ++ ys) ≡ xs
front n xs ys same = subst (λ k. take k (xs ++ ys) ≡ xs) same (take-append_seam xs ys)

pub invariant_of-held : goal.invariant_of-held
invariant_of-held c =
    let same : length c.reduce_each.new.entries ≡ c.held.inside.entries.len = omega arith in
    let e : c.drop_zeros.new.entries.items ≡ without_zeros c.reduce_each.new.entries = c.drop_zeros.ensures ∙ ap without_zeros (front c.held.inside.entries.len c.reduce_each.new.entries (drop (length c.reduce_each.new.entries) c.held.inside.entries.items) same) in
    (subst (λ es. T (is_sorted token_cmp es)) (sym e) (sorted-without_zeros c.reduce_each.new.entries c.reduce_each.ensures.sorted), subst AllPositive (sym e) (positive-without_zeros c.reduce_each.new.entries c.reduce_each.ensures.natural))
