use Rattle.play_lines.proofs.WorkedLemmas.{nothing_called, one_of_each, none_taken}
use Rattle.play_lines.proofs.worked.worked_lines.Goals as goal

pub returns-clause-nothing : goal.returns-clause-nothing
returns-clause-nothing c = nothing_called

pub returns-clause-each : goal.returns-clause-each
returns-clause-each c = one_of_each

pub returns-clause-none : goal.returns-clause-none
returns-clause-none c = none_taken
