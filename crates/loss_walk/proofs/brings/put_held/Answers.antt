use Rattle.std.proofs.lemmas.Result.{on_ok_weaker}
use Rattle.loss_walk.proofs.BringLemmas.{puts_held}
use Rattle.loss_walk.proofs.brings.put_held.Goals as goal

pub returns : goal.returns
returns c =
    on_ok_weaker c.replace_paid.result
    (λ h. puts_held c.args.known.now c.sum.new.known c.replace_paid.new.self c.args.party.now c.args.owner.now c.args.token.now c.in_ok-before.before c.in_ok-held.held c.in_ok-total.total c.in_ok-before.ensures c.in_ok-held.ensures c.in_ok-total.ensures.symbols
    c.sum.ensures.view h) c.replace_paid.ensures
