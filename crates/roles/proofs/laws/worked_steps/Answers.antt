use Rattle.roles.proofs.WorkedLemmas.{equal_payments, one_serves_one, nothing_due, under_locks, in_keys, empty_starts}
use Rattle.roles.proofs.laws.worked_steps.Goals as goal

pub returns-clause-equal : goal.returns-clause-equal
returns-clause-equal c = equal_payments

pub returns-clause-serves : goal.returns-clause-serves
returns-clause-serves c = one_serves_one

pub returns-clause-due : goal.returns-clause-due
returns-clause-due c = nothing_due

pub returns-clause-locks : goal.returns-clause-locks
returns-clause-locks c = under_locks

pub returns-clause-grant : goal.returns-clause-grant
returns-clause-grant c = in_keys

pub returns-clause-empty : goal.returns-clause-empty
returns-clause-empty c = empty_starts
