use Rattle.std.proofs.Common.{sym, ◌∙◌, ap}
use Rattle.std.specs.FinMap.{get, get-from_sorted}
use Rattle.names.specs.Orders.{bytes_cmp}
use Rattle.states.proofs.state.State.bound.Goals as goal

pub returns : goal.returns
returns c = c.get.ensures.value ∙ sym (get-from_sorted bytes_cmp _ c.args.name.now c.get.ensures.sorted) ∙ ap (λ s. get s.bound_values c.args.name.now) c.self.view_is
