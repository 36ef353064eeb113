use Rattle.std.proofs.Common.{subst, ◌⊎◌, inl, inr}
use Rattle.std.specs.FinMap.{entries}
use Rattle.builder_spec.specs.Bundle.Bundles.{AllPositive}
use Rattle.builder_spec.specs.Ledger.declared.look.Unspent.{Unspent}
use Rattle.coin_selection.proofs.SharesLemmas.{much_later}
use Rattle.coin_selection.proofs.limits.+spent.Goals as goal

kept : {A B C D : Type 0} → A ⊎ (B × C) → (C → D) → A ⊎ (B × D)
kept (inl a) f = inl a
kept (inr b) f = inr (b.0, f b.1)

pub returns-in-Err-clause-err : goal.returns-in-Err-clause-err
returns-in-Err-clause-err t c =
    let above = subst (λ (u : Unspent). AllPositive (entries u.output.amount)) c.own.view_is c.see.ensures in
    kept c.in-Err.ensures.err (much_later c.args.owns.now c.args.front.now c.own-item.result c.in-len1-up.len_at_least c.own-item.is above)
