use Rattle.std.proofs.Common.{◌≡◌, true, sym, ◌∙◌, ap, subst, IfOk, IfErr, ◌⊎◌, inl, inr, arith}
use Rattle.builder_spec.specs.Bundle.declared.fault.BundleFault.TheVariants as faults
use Rattle.builder_spec.specs.Holding.{sums, AreBundles}
use Rattle.builder_spec.specs.Causes.{is_much}
use Rattle.coin_selection.proofs.HalvesLemmas.{one_sum, in_halves, joined, much_first, much_others, single}
use Rattle.coin_selection.proofs.sums.+sum.Goals as goal

kept : {A B C D : Type 0} → A ⊎ (B × C) → (C → D) → A ⊎ (B × D)
kept (inl a) f = inl a
kept (inr b) f = inr (b.0, f b.1)

pub sum-requires : goal.sum-requires
sum-requires g t c κs within =
    let held = g.A.Holds.held in
    let few = c.split_at.ensures.front_len in
    let some = c.in_default.len_at_least in
    (omega (arith, c.decreases, few, some), (within, subst (AreBundles held) (sym c.split_at.ensures.front) (in_halves held _ c.args.items.now c.requires).0))

pub sum-requires-in-Ok : goal.sum-requires-in-Ok
sum-requires-in-Ok g t c κs within =
    let held = g.A.Holds.held in
    let few = c.split_at.ensures.back_len in
    let some = c.in_default.len_at_least in
    (omega (arith, c.decreases, few, some), (within, subst (AreBundles held) (sym c.split_at.ensures.back) (in_halves held _ c.args.items.now c.requires).1))

pub returns-in-len1-clause-ok : goal.returns-in-len1-clause-ok
returns-in-len1-clause-ok g t c =
    let held = g.A.Holds.held in
    let item = c.item-item.result in
    let one = single c.args.items.now item (omega (arith, c.in-len1.len_at_least)) (omega (arith, c.in-len1.len_below)) c.item-item.is in
    subst (λ s. IfOk c.held_copy.result (λ bundle. bundle ≡ s)) (sym (one_sum held item) ∙ ap (sums held) (sym one)) c.held_copy.ensures.ok

pub returns-in-Err-clause-err : goal.returns-in-Err-clause-err
returns-in-Err-clause-err g t c = kept c.in-Err.ensures.err (much_first g.A.Holds.held _ c.args.items.now _ c.split_at.ensures.front c.requires)

pub returns-in-Err-sum-clause-err : goal.returns-in-Err-sum-clause-err
returns-in-Err-sum-clause-err g t c = kept c.in-Err-sum.ensures.err (much_others g.A.Holds.held _ c.args.items.now _ c.split_at.ensures.back c.requires)

pub returns-in-Ok-sum-clause-ok : goal.returns-in-Ok-sum-clause-ok
returns-in-Ok-sum-clause-ok g t c =
    let all = joined g.A.Holds.held _ c.args.items.now _ _ c.in-Ok.first c.in-Ok-sum.others c.split_at.ensures.front c.split_at.ensures.back c.requires c.in-Ok.ensures.ok c.in-Ok-sum.ensures.ok in
    subst (λ s. IfOk c.both.result (λ bundle. bundle ≡ s)) all c.both.ensures.ok

pub returns-in-Ok-sum-clause-err : goal.returns-in-Ok-sum-clause-err
returns-in-Ok-sum-clause-err g t c =
    let all = joined g.A.Holds.held _ c.args.items.now _ _ c.in-Ok.first c.in-Ok-sum.others c.split_at.ensures.front c.split_at.ensures.back c.requires c.in-Ok.ensures.ok c.in-Ok-sum.ensures.ok in
    subst (λ s. IfErr c.both.result (λ fault. (fault ≡ faults.Memory) ⊎ ((fault ≡ faults.TooLarge) × (is_much s ≡ true)))) all c.both.ensures.err
