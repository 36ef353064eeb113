use Rattle.std.proofs.Common.{sym, subst}
use Rattle.ledger_kept.specs.LedgerSpec.Replay.{Course}
use Rattle.chain_holdings.specs.StillSupport.{IsStill}
use Rattle.chain_holdings.proofs.StillLemmas.{look_still}
use Rattle.chain_holdings.proofs.ends.look_at.Goals as goal

pub returns-clause-still : goal.returns-clause-still
returns-clause-still c = subst (λ (d : Course). IsStill c.args.chain.now d) (sym c.in_ok-reply.ensures.entry) (look_still c.args.chain.now 0 _)
