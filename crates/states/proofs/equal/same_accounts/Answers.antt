use Rattle.states.proofs.SameStates.{same_by_entries}
use Rattle.states.proofs.equal.same_accounts.Goals as goal

pub returns : goal.returns
returns c = same_by_entries c.args.a.now.accounts c.args.b.now.accounts _ _ _ c.same_entries.ensures c.accounts.ensures.all c.accounts-2.ensures.all
