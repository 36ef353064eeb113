use Rattle.std.proofs.Common.{sym, ◌∙◌, ap}
use Rattle.std.specs.FinMap.{entries, entries-from_sorted}
use Rattle.names.specs.Orders.{choice_id_cmp}
use Rattle.states.proofs.state.State.choices.Goals as goal

pub returns : goal.returns
returns c = c.as_slice.ensures.all ∙ sym (entries-from_sorted choice_id_cmp _ c.as_slice.ensures.sorted) ∙ ap (λ s. entries s.choices) c.self.view_is
