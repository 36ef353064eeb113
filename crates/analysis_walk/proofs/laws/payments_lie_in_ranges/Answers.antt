use Rattle.analysis_walk.proofs.PaidLaws.{payments_lie_in_ranges}
use Rattle.analysis_walk.proofs.laws.payments_lie_in_ranges.Goals as goal

pub returns : goal.returns
returns c = payments_lie_in_ranges c.time_never_goes_back.ensures c.payments_are_natural.ensures c.accounts_stay_above_zero.ensures
