use Rattle.std.proofs.Common.{sym, ◌∙◌, ap}
use Rattle.std.specs.FinMap.{get, get-from_sorted}
use Rattle.names.specs.Orders.{choice_id_cmp}
use Rattle.states.proofs.state.State.choice.Goals as goal

pub returns : goal.returns
returns c = c.get.ensures.value ∙ sym (get-from_sorted choice_id_cmp _ c.args.id.now c.get.ensures.sorted) ∙ ap (λ s. get s.choices c.args.id.now) c.self.view_is
