use Rattle.uses.proofs.CallerLemmas.{claimed_by, after_claimed_by}
use Rattle.uses.proofs.claim.claim_now.Goals as goal

pub returns-clause-claimed : goal.returns-clause-claimed
returns-clause-claimed c =
    claimed_by _ _ _ _ _ _ _ _ c.at_tick-now.ensures c.in_ok-reply.ensures.second c.in_ok-tx.ensures.answer c.in_ok-tx.ensures.fits c.in_ok-reply.ensures.reply

pub returns-clause-after : goal.returns-clause-after
returns-clause-after c = after_claimed_by _ _ _ _ _ _ _ _ _ c.at_tick-now.ensures c.in_ok-tx.ensures.answer c.in_ok-reply.ensures.after
