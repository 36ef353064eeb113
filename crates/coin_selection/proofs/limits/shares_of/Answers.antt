use Rattle.std.proofs.Common.{◌⊎◌, inl, inr}
use Rattle.builder_spec.specs.Holding.{sums, amount_in}
use Rattle.builder_spec.proofs.HoldingLaws.{positive_sums, much_left, much_right}
use Rattle.coin_selection.proofs.limits.shares_of.Goals as goal

kept : {A B C D : Type 0} → A ⊎ (B × C) → (C → D) → A ⊎ (B × D)
kept (inl a) f = inl a
kept (inr b) f = inr (b.0, f b.1)

pub returns-in-Err-clause-err : goal.returns-in-Err-clause-err
returns-in-Err-clause-err c =
    kept c.in-Err.ensures.err (much_left (sums amount_in c.args.first.now) (sums amount_in c.args.others.now) (positive_sums amount_in c.args.others.now c.requires.others))

pub returns-in-Err-sum-clause-err : goal.returns-in-Err-sum-clause-err
returns-in-Err-sum-clause-err c =
    kept c.in-Err-sum.ensures.err (much_right (sums amount_in c.args.first.now) (sums amount_in c.args.others.now) (positive_sums amount_in c.args.first.now c.requires.first))
