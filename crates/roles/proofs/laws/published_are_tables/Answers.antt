use Rattle.roles.proofs.PublicationsLemmas.{published_are_tables}
use Rattle.roles.proofs.laws.published_are_tables.Goals as goal

pub returns : goal.returns
returns c = published_are_tables c.codes_stand.ensures.stand
