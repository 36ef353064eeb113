use Rattle.roles.proofs.PublicationsLemmas.{published_tell_apart}
use Rattle.roles.proofs.laws.published_tell_contracts_apart.Goals as goal

pub returns : goal.returns
returns c = published_tell_apart c.codes_stand.ensures.stand
