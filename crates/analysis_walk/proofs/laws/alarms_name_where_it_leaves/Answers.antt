use Rattle.analysis_walk.proofs.PromiseLemmas.{alarms_name_where_it_leaves}
use Rattle.analysis_walk.proofs.laws.alarms_name_where_it_leaves.Goals as goal

pub returns : goal.returns
returns c = alarms_name_where_it_leaves c.time_never_goes_back.ensures
