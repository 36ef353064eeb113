use Rattle.std.proofs.Common.{◌≡◌, sym, ◌∙◌, ap, subst}
use Rattle.std.specs.FinMap.{entries, entries-from_sorted}
use Rattle.names.specs.Orders.{account_cmp}
use Rattle.states.specs.States.{AllPositive}
use Rattle.states.proofs.state.State.accounts.Goals as goal

pub returns : goal.returns
returns c =
    let same : entries c.args.self.now.accounts ≡ c.self.inside.accounts = ap (λ s. entries s.accounts) (sym c.self.view_is) ∙ entries-from_sorted account_cmp _ c.as_slice.ensures.sorted in
    record { all = c.as_slice.ensures.all ∙ sym same; positive = subst AllPositive (sym same) c.self.invariant }
