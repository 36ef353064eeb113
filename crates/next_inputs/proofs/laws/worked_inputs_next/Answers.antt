use Rattle.next_inputs.proofs.Worked.{equal_deposits_take_the_first, leaving_stops, other_account_is_taken, earlier_bounds_take, other_owner_is_taken, inverted_takes_nothing, true_notify_takes, start_is_trimmed, amount_is_read_later, waits_until_ninety_nine, following_is_ambiguous, sum_leaves}
use Rattle.next_inputs.proofs.laws.worked_inputs_next.Goals as goal

pub returns : goal.returns
returns c = record {
  equal = equal_deposits_take_the_first;
  leaving = leaving_stops;
  account = other_account_is_taken;
  bounds = earlier_bounds_take;
  owner = other_owner_is_taken;
  inverted = inverted_takes_nothing;
  notify = true_notify_takes;
  trimmed = start_is_trimmed;
  later = amount_is_read_later;
  until = waits_until_ninety_nine;
  behind = following_is_ambiguous;
  sum = sum_leaves;
}
