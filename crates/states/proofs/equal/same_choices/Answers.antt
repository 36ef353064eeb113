use Rattle.states.proofs.SameStates.{same_by_entries}
use Rattle.states.proofs.equal.same_choices.Goals as goal

pub returns : goal.returns
returns c = same_by_entries c.args.a.now.choices c.args.b.now.choices _ _ _ c.same_entries.ensures c.choices.ensures c.choices-2.ensures
