use Rattle.analysis_walk.proofs.PromiseLemmas.{alarms_name_where_it_comes}
use Rattle.analysis_walk.proofs.laws.alarms_name_where_it_comes.Goals as goal

pub returns : goal.returns
returns c = alarms_name_where_it_comes c.time_never_goes_back.ensures
