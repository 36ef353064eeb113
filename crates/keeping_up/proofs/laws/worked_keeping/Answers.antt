use Rattle.keeping_up.proofs.WorkedLemmas.{waits_for_the_buyer, waits_no_longer, waits_for_nobody_else, late_is_too_late, others_keep_up, deposit_is_in_time, refused_is_nothing, skipped_is_too_late, dead_on_arrival, over_at_the_start, nothing_is_asked}
use Rattle.keeping_up.proofs.laws.worked_keeping.Goals as goal

pub returns-clause-waits : goal.returns-clause-waits
returns-clause-waits c = waits_for_the_buyer

pub returns-clause-over : goal.returns-clause-over
returns-clause-over c = waits_no_longer

pub returns-clause-other : goal.returns-clause-other
returns-clause-other c = waits_for_nobody_else

pub returns-clause-late : goal.returns-clause-late
returns-clause-late c = late_is_too_late

pub returns-clause-others : goal.returns-clause-others
returns-clause-others c = others_keep_up

pub returns-clause-deposit : goal.returns-clause-deposit
returns-clause-deposit c = deposit_is_in_time

pub returns-clause-refused : goal.returns-clause-refused
returns-clause-refused c = refused_is_nothing

pub returns-clause-skipped : goal.returns-clause-skipped
returns-clause-skipped c = skipped_is_too_late

pub returns-clause-dead : goal.returns-clause-dead
returns-clause-dead c = dead_on_arrival

pub returns-clause-start : goal.returns-clause-start
returns-clause-start c = over_at_the_start

pub returns-clause-nothing : goal.returns-clause-nothing
returns-clause-nothing c = nothing_is_asked
