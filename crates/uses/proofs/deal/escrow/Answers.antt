use Rattle.uses.proofs.BegunLemmas.{ended}
use Rattle.uses.proofs.deal.escrow.Goals as goal

pub returns : goal.returns
returns c = ended _ _ _ _ _ _ _ _ _ _ _ c.in_ok-start.ensures.after c.in_ok-start.ensures.begun c.in_ok-reply.ensures.stepped c.in_ok-reply.ensures.after
