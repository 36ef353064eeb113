use Rattle.std.proofs.Common.{◌≡◌, ◌∙◌, ap, subst, map, Option, Some, None}
use Rattle.std.specs.List.{slice_get}
use Rattle.chain_index.specs.EutxoTypes.declared.tx.Tx.{Tx}
use Rattle.chain_index.specs.LedgerSpec.Replay.{Course, world}
use Rattle.ledger_kept.specs.Kept.{text_at}
use Rattle.ledger_kept.proofs.KeptLemmas.{accepted_there, accepted_is, accepted_none}
use Rattle.ledger_kept.proofs.kept.Kept.accepted_at.Goals as goal

pub text_at-requires : goal.text_at-requires
text_at-requires c =
    let s = c.self.inside in
    let w : Course = record { genesis = s.genesis.now; first_tick = s.first_tick; entries = s.entries.now } in
    accepted_there s.entries.now c.places.result.now (world w).replay.accepted c.args.number c.in-Some.place
    (ap (map (text_at s.entries.now)) c.places.ensures ∙ c.self.invariant.places)
    c.in-Some.ensures

pub returns-in-Some : goal.returns-in-Some
returns-in-Some c =
    let s = c.self.inside in
    let w : Course = record { genesis = s.genesis.now; first_tick = s.first_tick; entries = s.entries.now } in
    subst (λ (v : Course). ◌≡◌ {A = Option Tx} (Some c.text_at.result.now) (slice_get (world v).replay.accepted c.args.number)) c.self.view_is
    (accepted_is s.entries.now c.places.result.now (world w).replay.accepted c.args.number c.in-Some.place c.text_at.result.now
    (ap (map (text_at s.entries.now)) c.places.ensures ∙ c.self.invariant.places)
    c.in-Some.ensures
    c.text_at.ensures)

pub returns-in-None : goal.returns-in-None
returns-in-None c =
    let s = c.self.inside in
    let w : Course = record { genesis = s.genesis.now; first_tick = s.first_tick; entries = s.entries.now } in
    subst (λ (v : Course). ◌≡◌ {A = Option Tx} None (slice_get (world v).replay.accepted c.args.number)) c.self.view_is
    (accepted_none s.entries.now c.places.result.now (world w).replay.accepted c.args.number
    (ap (map (text_at s.entries.now)) c.places.ensures ∙ c.self.invariant.places)
    c.in-None.ensures)
