use Rattle.ledger_dispatch.proofs.TiedLemmas.{judged_alike}
use Rattle.ledger_dispatch.proofs.dispatch.each_is_judged_alike.Goals as goal

pub returns : goal.returns
returns c = judged_alike c.index_reads_alike.ensures c.index_accepts_alike.ensures.alike c.index_accepts_alike.ensures.places c.index_accepts_alike.ensures.added c.accepting_is_sound.ensures
