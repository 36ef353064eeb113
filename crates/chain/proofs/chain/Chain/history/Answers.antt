use Rattle.ledger_views.specs.LedgerSpec.Replay.{Course}
use Rattle.chain.proofs.ShownLemmas.{published_between, shows}
use Rattle.chain.proofs.chain.Chain.history.Goals as goal

pub returns-clause-legal : goal.returns-clause-legal
returns-clause-legal c = rw (← c.self.view_is) c.self.invariant.legal

pub returns-clause-begins : goal.returns-clause-begins
returns-clause-begins c = rw (← c.self.view_is) (c.self.invariant.present.sound.keys, c.self.invariant.sums)

pub returns-clause-stands : goal.returns-clause-stands
returns-clause-stands c =
    let s = c.self.inside in
    let course : Course = record { genesis = s.genesis; first_tick = s.first_tick; entries = s.entries.items } in
    rw (← c.self.view_is) (c.legal_histories_stand.ensures course c.self.invariant.legal)

pub returns-clause-in_use : goal.returns-clause-in_use
returns-clause-in_use c =
    let s = c.self.inside in
    let course : Course = record { genesis = s.genesis; first_tick = s.first_tick; entries = s.entries.items } in
    rw (← c.self.view_is) (c.publications_are_entries.ensures.in_use course c.self.invariant.legal)

pub returns-clause-stays : goal.returns-clause-stays
returns-clause-stays c =
    let s = c.self.inside in
    let course : Course = record { genesis = s.genesis; first_tick = s.first_tick; entries = s.entries.items } in
    rw (← c.self.view_is) (published_between course)

pub returns-clause-fits : goal.returns-clause-fits
returns-clause-fits c = rw (← c.self.view_is) c.self.invariant.present.fits

pub returns-clause-first : goal.returns-clause-first
returns-clause-first c =
    let s = c.self.inside in
    let course : Course = record { genesis = s.genesis; first_tick = s.first_tick; entries = s.entries.items } in
    let kept = c.self.invariant in
    let both = (c.both_halves_hold_of_legal_histories.ensures course kept.legal kept.present.sound.keys kept.present.fits).0 in
    rw (← c.self.view_is) both.0

pub returns-clause-second : goal.returns-clause-second
returns-clause-second c =
    let s = c.self.inside in
    let course : Course = record { genesis = s.genesis; first_tick = s.first_tick; entries = s.entries.items } in
    let kept = c.self.invariant in
    let both = (c.both_halves_hold_of_legal_histories.ensures course kept.legal kept.present.sound.keys kept.present.fits).0 in
    rw (← c.self.view_is) both.1

pub returns-clause-throughout : goal.returns-clause-throughout
returns-clause-throughout c =
    let s = c.self.inside in
    let course : Course = record { genesis = s.genesis; first_tick = s.first_tick; entries = s.entries.items } in
    let kept = c.self.invariant in
    let before = (c.both_halves_hold_of_legal_histories.ensures course kept.legal kept.present.sound.keys kept.present.fits).1 in
    rw (← c.self.view_is) before

pub returns-clause-shown : goal.returns-clause-shown
returns-clause-shown c =
    rw (← c.self.view_is)
    (shows c.found_is_enough.ensures c.starting_is_sound.ensures c.accepting_is_sound.ensures c.publishing_is_sound.ensures c.contracts_end_threads.ensures.unspent c.threads_stay.ensures _ c.self.invariant.present.sound.keys c.self.invariant.legal)
