use Rattle.reached_bounds.proofs.SameLemmas.{token_so}
use Rattle.reached_bounds.proofs.sums.is_token.Goals as goal

pub returns : goal.returns
returns c = token_so c.args.token.now c.args.other.now c.same.result c.same.ensures
