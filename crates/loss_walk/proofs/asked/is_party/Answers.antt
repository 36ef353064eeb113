use Rattle.loss_walk.proofs.SameLemmas.{party_so}
use Rattle.loss_walk.proofs.asked.is_party.Goals as goal

pub returns : goal.returns
returns c = party_so c.args.party.now c.args.other.now c.same.result c.same.ensures
