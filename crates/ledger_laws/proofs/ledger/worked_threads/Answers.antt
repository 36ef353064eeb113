use Rattle.ledger_laws.proofs.WorkedLemmas.{nobody_came, two_steps, none_after_the_end, given_by_name, one_moves}
use Rattle.ledger_laws.proofs.ledger.worked_threads.Goals as goal

pub returns-clause-nobody : goal.returns-clause-nobody
returns-clause-nobody c = nobody_came

pub returns-clause-two : goal.returns-clause-two
returns-clause-two c = two_steps

pub returns-clause-end : goal.returns-clause-end
returns-clause-end c = none_after_the_end

pub returns-clause-given : goal.returns-clause-given
returns-clause-given c = given_by_name

pub returns-clause-moves : goal.returns-clause-moves
returns-clause-moves c = one_moves
