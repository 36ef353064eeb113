use Rattle.loss_walk.proofs.KeptLemmas.{account_so, one_at}
use Rattle.loss_walk.proofs.keeping.is_asked.Goals as goal

pub returns-then-is_token : goal.returns-then-is_token
returns-then-is_token c = λ e.
    one_at c.args.asked.now c.loop-other.other-index c.other-item.result c.args.account.now c.loop-other-test.true c.other-item.is
    (account_so c.args.account.now c.other-item.result c.is_party.result c.is_token.result c.is_party.ensures c.is_token.ensures c.if-is_party.true c.if-is_token.true)
