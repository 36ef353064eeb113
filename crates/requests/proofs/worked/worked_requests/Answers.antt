use Rattle.std.proofs.Common.{refl}
use Rattle.requests.specs.Requests.{request_of}
use Rattle.requests.proofs.worked.worked_requests.Goals as goal

pub returns-clause-first : goal.returns-clause-first
unfolding request_of
returns-clause-first c = refl

pub returns-clause-others : goal.returns-clause-others
unfolding request_of
returns-clause-others c = (refl, refl, refl)
