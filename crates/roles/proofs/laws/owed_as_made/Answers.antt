use Rattle.roles.proofs.OwedLaws.{goes_on_where_made, made_are_continuations, paid_in_due_outputs}
use Rattle.roles.proofs.laws.owed_as_made.Goals as goal

pub returns-clause-made : goal.returns-clause-made
returns-clause-made c = goes_on_where_made

pub returns-clause-continuation : goal.returns-clause-continuation
returns-clause-continuation c = made_are_continuations

pub returns-clause-payments : goal.returns-clause-payments
returns-clause-payments c = paid_in_due_outputs
