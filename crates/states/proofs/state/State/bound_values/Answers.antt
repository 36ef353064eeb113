use Rattle.std.proofs.Common.{sym, ◌∙◌, ap}
use Rattle.std.specs.FinMap.{entries, entries-from_sorted}
use Rattle.names.specs.Orders.{bytes_cmp}
use Rattle.states.proofs.state.State.bound_values.Goals as goal

pub returns : goal.returns
returns c = c.as_slice.ensures.all ∙ sym (entries-from_sorted bytes_cmp _ c.as_slice.ensures.sorted) ∙ ap (λ s. entries s.bound_values) c.self.view_is
