use Rattle.trace.proofs.Worked.{two_come_to_the_third, two_take_the_first_cases, third_is_refused, pay_warns_behind_the_let}
use Rattle.trace.proofs.laws.worked_traces.Goals as goal

pub returns : goal.returns
returns c = record { two = two_come_to_the_third; path = two_take_the_first_cases; third = third_is_refused; warning = pay_warns_behind_the_let }
