use Rattle.states.proofs.SameStates.{same_by_entries}
use Rattle.states.proofs.equal.same_bound_values.Goals as goal

pub returns : goal.returns
returns c = same_by_entries c.args.a.now.bound_values c.args.b.now.bound_values _ _ _ c.same_entries.ensures c.bound_values.ensures c.bound_values-2.ensures
