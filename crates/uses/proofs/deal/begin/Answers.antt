use Rattle.uses.specs.Uses.{agreed}
use Rattle.uses.proofs.BegunLemmas.{begun, after_begun}
use Rattle.uses.proofs.deal.begin.Goals as goal

pub returns-clause-begun : goal.returns-clause-begun
returns-clause-begun c =
    begun _ _ _ _ _ _ _ _ _ _ _ _ _ c.in_ok-publish_deal.ensures c.in_ok-currency.ensures c.in_ok-published.ensures.published c.at_tick-now.ensures c.in_ok-tx.ensures.answer c.in_ok-reply.ensures.reply c.in_ok-id.ensures

pub returns-clause-after : goal.returns-clause-after
returns-clause-after c =
    after_begun _ _ _ _ (agreed c.args.deal.contract.now c.args.deal.currency.now c.args.deal.state.now) _ _ _ _ _ _ _ c.in_ok-publish_deal.ensures c.in_ok-currency.ensures c.in_ok-published.ensures.published c.at_tick-now.ensures c.in_ok-tx.ensures.answer c.in_ok-reply.ensures.after
