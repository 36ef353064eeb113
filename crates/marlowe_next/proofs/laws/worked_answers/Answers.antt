use Rattle.marlowe_next.proofs.Worked.{times_follow_the_minimum, leads_to_the_third, what_follows_is_refused}
use Rattle.marlowe_next.proofs.laws.worked_answers.Goals as goal

pub returns : goal.returns
returns c = record { times = times_follow_the_minimum; after = leads_to_the_third; refused = what_follows_is_refused }
