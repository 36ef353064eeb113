use Rattle.analysis_spec.proofs.PlaceRowsLemmas.{root_is_reached, first_case_is_reached, refused_run_reaches, second_run_reaches}
use Rattle.analysis_spec.proofs.rows.worked_reaches.Goals as goal

pub returns-clause-root : goal.returns-clause-root
returns-clause-root c = root_is_reached

pub returns-clause-first_case : goal.returns-clause-first_case
returns-clause-first_case c = first_case_is_reached

pub returns-clause-refused : goal.returns-clause-refused
returns-clause-refused c = refused_run_reaches

pub returns-clause-second : goal.returns-clause-second
returns-clause-second c = second_run_reaches
