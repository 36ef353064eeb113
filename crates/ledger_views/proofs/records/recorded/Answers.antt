use Rattle.std.proofs.Common.{sym, ◌∙◌, ap}
use Rattle.std.specs.Option.{option_copied}
use Rattle.ledger_kept.specs.EutxoTypes.declared.tx.Tx.{Tx}
use Rattle.ledger_kept.specs.Roles.Terms.{terms_of}
use Rattle.ledger_kept.specs.LedgerLaws.Threads.{brought_to}
use Rattle.ledger_views.proofs.NextRecordLemmas.{brings_one}
use Rattle.ledger_views.proofs.records.recorded.Goals as goal

-- the transaction brings a datum for the output that it spends
pub unreachable-requires : goal.unreachable-requires
unreachable-requires c =
    let tx = c.tx-tx.ensures in
    let brought = c.brought_to.ensures ∙ (λ i. brought_to (c.spends.ensures i) ((c.as_slice.ensures ∙ ap (λ (t : Tx). t.inputs) tx) i) ((c.as_slice-2.ensures ∙ ap (λ (t : Tx). t.datums) tx) i)) in
    absurd (brings_one (terms_of c.args.published.now) c.args.next c.args.link.now c.requires (sym brought ∙ ap option_copied c.in-None.is))

pub recorded_from-requires-clause-brought : goal.recorded_from-requires-clause-brought
recorded_from-requires-clause-brought c =
    let tx = c.tx-tx.ensures in
    let brought = c.brought_to.ensures ∙ (λ i. brought_to (c.spends.ensures i) ((c.as_slice.ensures ∙ ap (λ (t : Tx). t.inputs) tx) i) ((c.as_slice-2.ensures ∙ ap (λ (t : Tx). t.datums) tx) i)) in
    sym brought ∙ ap option_copied c.in-Some.is
