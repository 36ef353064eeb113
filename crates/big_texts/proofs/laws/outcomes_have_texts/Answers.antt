use Rattle.big_texts.proofs.StateLaws.{outcomes_have_texts, states_are_read_alike}
use Rattle.big_texts.proofs.laws.outcomes_have_texts.Goals as goal

pub returns-clause-outcomes : goal.returns-clause-outcomes
returns-clause-outcomes c = outcomes_have_texts

pub returns-clause-states : goal.returns-clause-states
returns-clause-states c = states_are_read_alike
