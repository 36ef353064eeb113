use Rattle.told_parts.proofs.Worked.{misspelled_keys_are_told, words_are_told, numbers_are_told, bad_states_are_told}
use Rattle.told_parts.proofs.laws.worked_lines.Goals as goal

pub returns-clause-misspelled : goal.returns-clause-misspelled
returns-clause-misspelled c = misspelled_keys_are_told

pub returns-clause-words : goal.returns-clause-words
returns-clause-words c = words_are_told

pub returns-clause-numbers : goal.returns-clause-numbers
returns-clause-numbers c = numbers_are_told

pub returns-clause-bad_states : goal.returns-clause-bad_states
returns-clause-bad_states c = bad_states_are_told
