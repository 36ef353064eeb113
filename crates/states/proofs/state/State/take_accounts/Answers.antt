use Rattle.std.proofs.Common.{ℤ, sym, ◌∙◌, ap}
use Rattle.std.specs.FinMap.{FinMap, entries, empty, from_sorted, entries-from_sorted}
use Rattle.names.specs.Orders.{account_cmp}
use Rattle.states.specs.States.{StateMaps}
use Rattle.names.proofs.FromCollections.Maps.{no_entries}
use Rattle.states.proofs.state.State.take_accounts.Goals as goal

pub returns-clause-taken : goal.returns-clause-taken
returns-clause-taken c = c.take.ensures.taken ∙ sym (entries-from_sorted account_cmp _ c.take.ensures.sorted) ∙ ap (λ s. entries s.accounts) c.self.view_is

pub returns-clause-left : goal.returns-clause-left
returns-clause-left c =
    ap (λ (m : FinMap account_cmp ℤ). record { accounts = m; choices = from_sorted c.self.inside.choices; bound_values = from_sorted c.self.inside.bound_values; min_time = c.self.inside.min_time })
    (ap (from_sorted {R = account_cmp}) c.take.ensures.empty ∙ no_entries account_cmp)
    ∙ ap (λ (s : StateMaps). record s { accounts = empty }) c.self.view_is
