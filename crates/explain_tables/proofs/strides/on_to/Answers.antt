use Rattle.explain_tables.proofs.DepthLemmas.{way_on}
use Rattle.explain_tables.proofs.strides.on_to.Goals as goal

pub returns : goal.returns
returns c = way_on c.args.way c.args.far c.in_ok-path.path c.requires c.in_ok-path.ensures
