use Rattle.analysis_spec.proofs.PlaceRowsLemmas.{second_pays_partly, first_pays_all, first_action_warns, what_follows_is_silent, second_action_is_silent, tried_case_leaves, later_case_stays, second_binding_shadows, first_binding_is_new}
use Rattle.analysis_spec.proofs.rows.worked_places.Goals as goal

pub returns-clause-second_pay : goal.returns-clause-second_pay
returns-clause-second_pay c = second_pays_partly

pub returns-clause-first_pay : goal.returns-clause-first_pay
returns-clause-first_pay c = first_pays_all

pub returns-clause-first_action : goal.returns-clause-first_action
returns-clause-first_action c = first_action_warns

pub returns-clause-behind_it : goal.returns-clause-behind_it
returns-clause-behind_it c = what_follows_is_silent

pub returns-clause-second_action : goal.returns-clause-second_action
returns-clause-second_action c = second_action_is_silent

pub returns-clause-tried : goal.returns-clause-tried
returns-clause-tried c = tried_case_leaves

pub returns-clause-later : goal.returns-clause-later
returns-clause-later c = later_case_stays

pub returns-clause-second_binding : goal.returns-clause-second_binding
returns-clause-second_binding c = second_binding_shadows

pub returns-clause-first_binding : goal.returns-clause-first_binding
returns-clause-first_binding c = first_binding_is_new
