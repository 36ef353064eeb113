use Rattle.ledger_views.specs.LedgerSpec.Replay.{Course}
use Rattle.chain.proofs.chain.Chain.layouts_are_accepted.Goals as goal

pub returns : goal.returns
returns c =
    let s = c.self.inside in
    let course : Course = record { genesis = s.genesis; first_tick = s.first_tick; entries = s.entries.items } in
    let kept = c.self.invariant in
    let both = (c.both_halves_hold_of_legal_histories.ensures course kept.legal kept.present.sound.keys kept.present.fits).0 in
    rw (← c.self.view_is) both.1
