use Rattle.loss_walk.proofs.SameLemmas.{token_so}
use Rattle.loss_walk.proofs.asked.is_token.Goals as goal

pub returns : goal.returns
returns c = token_so c.args.token.now c.args.other.now c.same.result c.same.ensures
