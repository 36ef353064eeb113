use Rattle.std.proofs.Common.{◌≡◌, ℕ, true, List, Option, refl, sym, ◌∙◌, ap}
use Rattle.ledger_kept.specs.Table.AlongLaws.{along_tree}
use Rattle.ledger_kept.specs.EutxoTypes.declared.tx.Tx.{Tx}
use Rattle.ledger_kept.specs.Roles.declared.published.Published.{Published}
use Rattle.ledger_kept.specs.Roles.Terms.{terms_of}
use Rattle.ledger_kept.specs.LedgerLaws.Past.{Past}
use Rattle.ledger_kept.specs.LedgerLaws.Threads.{Member}
use Rattle.ledger_kept.specs.LedgerSpec.declared.step_record.StepRecord.{StepRecord}
use Rattle.ledger_kept.specs.LedgerSpec.Records.{member_of}
use Rattle.ledger_views.specs.RecordsSupport.{given, instance_next, number_after, IsStepOf}
use Rattle.ledger_views.proofs.NextRecordLemmas.{has_so, record_so}
use Rattle.ledger_views.proofs.records.recorded_from.Goals as goal
use Rattle.ledger_views.proofs.records.recorded_from.Goals.{After-number_after-number}

abbrev made : After-number_after-number → StepRecord
made c = record {
  interval = c.tx-tx.result.now.interval;
  inputs = c.in_ok-inputs.inputs;
  warnings = c.in-Ok.outcome.warnings;
  payments = c.in-Ok.outcome.payments;
  state = c.in-Ok.outcome.state;
  number = c.number_after-number.result;
}

-- the number is the one that the next output holds
number_there : (c : After-number_after-number) → (made c).number ≡ number_after (instance_next c.args.link.now.tx c.args.next) c.in-Ok.outcome.place
number_there c = c.number_after-number.ensures ∙ ap (λ (tx : Tx). number_after (instance_next tx c.args.next) c.in-Ok.outcome.place) c.tx-tx.ensures

told : (c : After-number_after-number) (named : List ℕ → Option Published) (past : Past) (x : Member) → IsStepOf named past (terms_of c.args.published.now) c.args.next c.args.link.now x →
    ((terms_of c.args.published.now).has (made c).number ≡ true) × (member_of (terms_of c.args.published.now) (made c) ≡ x)
told c named past x step =
    let place = c.in-Ok.outcome.place in
    let d = c.args.datum.now in
    let ticks = ap (λ (tx : Tx). tx.interval) c.tx-tx.ensures in
    let spent = c.as_slice-2.ensures ∙ c.in_ok-inputs.ensures ∙ c.given.ensures ∙ (λ i. given (c.spends.ensures i) ((c.as_slice.ensures ∙ ap (λ (tx : Tx). tx.inputs) c.tx-tx.ensures) i)) in
    let here = (c.turns_lead.ensures.test d.cont).0 (has_so named past (terms_of c.args.published.now) d c.args.next c.args.link.now x step c.requires.brought) in
    let has = (c.turns_lead.ensures.test place).1 (along_tree c.args.published.now.table d.cont _ place here c.in-Ok.ensures.place).0 in
    record_so named past (terms_of c.args.published.now) d c.args.next c.args.link.now x step c.requires.brought c.tx-tx.result.now.interval c.as_slice-2.result.now ticks spent
    (made c) place refl (sym c.as_slice-2.ensures) c.in-Ok.ensures.answer c.in-Ok.ensures.warnings c.in-Ok.ensures.payments has (number_there c)

pub returns-in-Ok-clause-record : goal.returns-in-Ok-clause-record
returns-in-Ok-clause-record c = let a = (goal.at.returns-in-Ok-clause-record c).After-number_after-number in λ named past x step. (told a named past x step).1

pub returns-in-Ok-clause-number : goal.returns-in-Ok-clause-number
returns-in-Ok-clause-number c =
    let a = (goal.at.returns-in-Ok-clause-number c).After-number_after-number in
    let s = a.requires.step in
    (told a s.0 s.1 s.2 s.3).0
