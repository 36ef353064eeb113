use Rattle.json_forms.proofs.Worked.{letters_are_counted, misspelled_keys_are_found, no_form_is_meant, fewest_lack}
use Rattle.json_forms.proofs.laws.worked_forms.Goals as goal

pub returns-clause-letters : goal.returns-clause-letters
returns-clause-letters c = letters_are_counted

pub returns-clause-misspelled : goal.returns-clause-misspelled
returns-clause-misspelled c = misspelled_keys_are_found

pub returns-clause-none : goal.returns-clause-none
returns-clause-none c = no_form_is_meant

pub returns-clause-fewest : goal.returns-clause-fewest
returns-clause-fewest c = fewest_lack
