use Rattle.std.proofs.Common.{◌≡◌, List, length, sym, ◌∙◌, subst}
use Rattle.ledger.specs.declared.call.Entry.{Entry}
use Rattle.hub.specs.HubSupport.{AllFit}
use Rattle.chain_index.specs.LedgerSpec.Legal.{IsLegal}
use Rattle.chain_index.specs.LedgerSpec.Replay.{Course}
use Rattle.hub.specs.Seats.{answered, AreHeard}
use Rattle.hub.proofs.SeatsLemmas.{all_heard}
use Rattle.hub.proofs.hub.Hub.close.Goals as goal

pub returns-clause-heard : goal.returns-clause-heard
returns-clause-heard g c =
    let desk = c.into_parts-chain.ensures in
    let same = c.seal-journal.ensures ∙ desk.written in
    let fit = subst (λ (l : List Entry). AllFit l c.args.seats.items) same c.check_all_seats.ensures in
    let count : length c.into_parts-chain.result.chain.entries ≡ answered c.args.seats.items = sym desk.counted ∙ (sym (c.audit.ensures.whole (c.merged-all.ensures.0 ∙ c.requires.all)) ∙ c.merged-all.ensures.1) in
    let heard = all_heard c.into_parts-chain.result.chain c.args.seats.items c.history.ensures.legal c.requires.order fit count in
    subst (λ (k : Course). AreHeard k.entries c.args.seats.items) (sym c.closed_of.ensures) heard

pub returns-clause-legal : goal.returns-clause-legal
returns-clause-legal g c = subst (λ (k : Course). IsLegal k) (sym c.closed_of.ensures) c.history.ensures.legal

pub returns-clause-count : goal.returns-clause-count
returns-clause-count g c =
    let desk = c.into_parts-chain.ensures in
    let count : length c.into_parts-chain.result.chain.entries ≡ answered c.args.seats.items = sym desk.counted ∙ (sym (c.audit.ensures.whole (c.merged-all.ensures.0 ∙ c.requires.all)) ∙ c.merged-all.ensures.1) in
    subst (λ (k : Course). length k.entries ≡ answered c.args.seats.items) (sym c.closed_of.ensures) count
