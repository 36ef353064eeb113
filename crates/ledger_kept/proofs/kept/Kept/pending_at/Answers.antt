use Rattle.std.proofs.Common.{◌≡◌, ◌<◌, ◌∙◌, sym, ap, subst, map, length, get_or, Some}
use Rattle.std.specs.List.{slice_get}
use Rattle.chain_index.specs.LedgerSpec.Replay.{Course, pending_entry, world}
use Rattle.ledger_kept.specs.declared.tally.Waiting.{Waiting}
use Rattle.ledger_kept.specs.Kept.{with_text}
use Rattle.ledger_kept.proofs.KeptLemmas.{pending_there, pending_is}
use Rattle.ledger_kept.proofs.kept.Kept.pending_at.Goals as goal

none : Waiting
none = record { ticket = 0; entry = 0 }

pub text_at-requires : goal.text_at-requires
unfolding none
text_at-requires c =
    let s = c.self.inside in
    let w : Course = record { genesis = s.genesis.now; first_tick = s.first_tick; entries = s.entries.now } in
    pending_there s.entries.now c.pending.result.now (world w).replay.pending c.args.place none
    (ap (map (with_text s.entries.now)) c.pending.ensures ∙ c.self.invariant.pending)
    (subst (λ (v : Course). c.args.place < length (world v).replay.pending) (sym c.self.view_is) c.requires)

pub returns : goal.returns
unfolding none
returns c =
    let s = c.self.inside in
    let w : Course = record { genesis = s.genesis.now; first_tick = s.first_tick; entries = s.entries.now } in
    subst (λ (v : Course). slice_get (world v).replay.pending c.args.place ≡ Some (pending_entry (get_or c.pending.result.now c.args.place none).ticket c.text_at.result.now)) c.self.view_is
    (pending_is s.entries.now c.pending.result.now (world w).replay.pending c.args.place none c.text_at.result.now
    (ap (map (with_text s.entries.now)) c.pending.ensures ∙ c.self.invariant.pending)
    (subst (λ (v : Course). c.args.place < length (world v).replay.pending) (sym c.self.view_is) c.requires)
    c.text_at.ensures)
