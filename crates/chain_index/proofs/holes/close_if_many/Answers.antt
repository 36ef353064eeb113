use Rattle.std.proofs.Common.{◌∙◌, ap}
use Rattle.chain_index.specs.HolesSupport.{live}
use Rattle.chain_index.proofs.LiveLemmas.{closed}
use Rattle.chain_index.proofs.holes.close_if_many.Goals as goal

pub returns-then-holes-len-clause-live : goal.returns-then-holes-len-clause-live
returns-then-holes-len-clause-live g c = ap live c.close.ensures ∙ closed c.args.slots.now.entries
