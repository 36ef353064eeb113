use Rattle.std.proofs.Common.{◌≡◌, ◌++◌, ◌+◌, drop, false, sym, ◌∙◌, ap, subst, arith, pos, ◌≤ℤ◌, ◌<ℤ◌, ℤ}
use Rattle.std.proofs.lemmas.Int.{ints}
use Rattle.std.specs.declared.cmp.Ordering.TheVariants.{Equal}
use Rattle.names.specs.declared.token.Token.{Token}
use Rattle.names.specs.Orders.{token_cmp}
use Rattle.bundle.specs.Bundles.{is_large}
use Rattle.bundle.specs.WalksSupport.{NoneAfter}
use Rattle.bundle.proofs.WalkLemmas.{none_after, starts_at, starts_within, positive_at}
use Rattle.bundle.proofs.MergeLemmas.{held_there, passed_there, passed_new, none_after_put, none_after_more}
use Rattle.bundle.proofs.adding.gain.Goals as goal

at_least : (n : ℤ) → pos 0 <ℤ n → pos 0 ≤ℤ n
at_least n h = omega (arith, ints)

pub put_sum-requires-clause-held : goal.put_sum-requires-clause-held
put_sum-requires-clause-held c =
    at_least _ (positive_at c.args.held.now c.in_ok-at.at c.index-held-at.result c.requires.held_positive
    (starts_within c.args.entry.now.0 c.args.held.now c.in_ok-at.at (sym c.is_at.ensures ∙ c.if-is_at.true)) c.index-held-at.is)

pub put_sum-requires-clause-fits : goal.put_sum-requires-clause-fits
put_sum-requires-clause-fits c =
    subst (λ n. is_large n c.args.entry.now.1 ≡ false)
    (held_there c.args.entry.now.0 _ c.args.held.now c.in_ok-at.at _ c.in_ok-at.ensures.whole c.in_ok-at.ensures.sum_before c.index-held-at.result c.index-held-at.is (sym c.is_at.ensures ∙ c.if-is_at.true))
    c.requires.fits

pub returns-in_ok-put_sum-clause-sum_none_after : goal.returns-in_ok-put_sum-clause-sum_none_after
returns-in_ok-put_sum-clause-sum_none_after c =
    subst (NoneAfter c.args.entry.now.0) (sym c.in_ok-put_sum.ensures) (none_after_put c.args.entry.now.0 _ _ c.in_ok-at.ensures.sum_before)

pub returns-in_ok-put_sum-clause-none_after : goal.returns-in_ok-put_sum-clause-none_after
returns-in_ok-put_sum-clause-none_after c =
    let s = sym c.is_at.ensures ∙ c.if-is_at.true in
    none_after_more c.args.entry.now.0 c.args.held.now c.in_ok-at.at c.index-held-at.result
    (starts_within c.args.entry.now.0 c.args.held.now c.in_ok-at.at s) c.index-held-at.is
    (subst (λ (x : Token × ℤ). token_cmp c.args.entry.now.0 x.0 ≡ Equal) (sym c.index-held-at.is) (starts_at c.args.entry.now.0 c.args.held.now c.in_ok-at.at c.index-held-at.result s))
    c.in_ok-at.ensures.before

pub returns-in_ok-put_sum-clause-put : goal.returns-in_ok-put_sum-clause-put
returns-in_ok-put_sum-clause-put c =
    ap (λ xs. xs ++ drop (c.in_ok-at.at + 1) c.args.held.now) c.in_ok-put_sum.ensures
    ∙ passed_there c.args.entry.now.0 _ c.args.held.now c.in_ok-at.at _ c.in_ok-at.ensures.whole c.in_ok-at.ensures.sum_before c.index-held-at.result c.args.entry.now.1 c.index-held-at.is (sym c.is_at.ensures ∙ c.if-is_at.true)

pub returns-in_ok-put_copy-clause-sum_none_after : goal.returns-in_ok-put_copy-clause-sum_none_after
returns-in_ok-put_copy-clause-sum_none_after c =
    subst (NoneAfter c.args.entry.now.0) (sym c.in_ok-put_copy.ensures) (none_after_put c.args.entry.now.0 _ c.args.entry.now.1 c.in_ok-at.ensures.sum_before)

pub returns-in_ok-put_copy-clause-none_after : goal.returns-in_ok-put_copy-clause-none_after
returns-in_ok-put_copy-clause-none_after c = none_after c.args.entry.now.0 _ c.in_ok-at.ensures.before

pub returns-in_ok-put_copy-clause-put : goal.returns-in_ok-put_copy-clause-put
returns-in_ok-put_copy-clause-put c =
    ap (λ xs. xs ++ drop c.in_ok-at.at c.args.held.now) c.in_ok-put_copy.ensures
    ∙ passed_new c.args.entry.now.0 _ c.args.held.now c.in_ok-at.at _ c.in_ok-at.ensures.whole c.in_ok-at.ensures.sum_before c.args.entry.now.1 c.requires.sorted c.in_ok-at.ensures.next (sym c.is_at.ensures ∙ c.if-is_at.false)
