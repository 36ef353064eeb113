use Rattle.reached_bounds.proofs.WorkedLemmas.{five_are_paid, five_are_lost, four_are_not_lost, refused_is_no_run, moved_is_not_paid}
use Rattle.reached_bounds.proofs.laws.worked_reaches.Goals as goal

pub returns-clause-paid : goal.returns-clause-paid
returns-clause-paid c = five_are_paid

pub returns-clause-lost : goal.returns-clause-lost
returns-clause-lost c = five_are_lost

pub returns-clause-less : goal.returns-clause-less
returns-clause-less c = four_are_not_lost

pub returns-clause-refused : goal.returns-clause-refused
returns-clause-refused c = refused_is_no_run

pub returns-clause-account : goal.returns-clause-account
returns-clause-account c = moved_is_not_paid
