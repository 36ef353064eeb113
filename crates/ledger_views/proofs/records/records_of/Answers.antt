use Rattle.std.proofs.Common.{◌≡◌, ◌≤◌, true, ◌∙◌, sym, arith, length}
use Rattle.ledger_kept.specs.Roles.Steps.{marlowe}
use Rattle.ledger_kept.specs.Roles.Terms.{terms_of}
use Rattle.ledger_kept.specs.LedgerLaws.Threads.{next_of}
use Rattle.ledger_kept.specs.LedgerSpec.declared.step_record.StepRecord.{StepRecord}
use Rattle.ledger_views.proofs.LinkLemmas.{leads_at}
use Rattle.ledger_views.proofs.NextRecordLemmas.{step_next, goes_next, none_left, all_next, count_next, hold_next}
use Rattle.ledger_views.proofs.records.records_of.Goals as goal

-- the next of the thread's transactions carries its member
pub recorded-requires : goal.recorded-requires
recorded-requires c =
    let some = c.requires in
    let on = leads_at (next_of marlowe some.0 some.1) c.args.links.now c.args.end c.loop-i.i c.index-links-i.result some.2 c.loop-i-test.true c.index-links-i.is ∙ sym c.goes_to-next.ensures in
    let s = step_next some.0 some.1 (terms_of c.args.published.now) c.args.start.now.script c.goes_to-next.result c.args.links.now c.loop-i.records c.loop-i.i c.index-links-i.result c.loop-i-test.true c.index-links-i.is on
    (c.loop-i.invariant.goes some.0 some.1 some.3.0 some.2 some.3.1) in
    (some.0, some.1, s.0, s.1)

pub loop-i-preserved : goal.loop-i-preserved
loop-i-preserved c =
    let t = terms_of c.args.published.now in
    let ls = c.args.links.now in
    let i = c.loop-i.i in
    let l = c.index-links-i.result in
    let r = c.in_ok-record.record in
    let next = c.goes_to-next.result in
    let added = c.in_ok-push.ensures.added in
    record {
      goes = λ named past run leads is.
          let on = leads_at (next_of marlowe named past) ls c.args.end i l leads c.loop-i-test.true c.index-links-i.is ∙ sym c.goes_to-next.ensures in
          goes_next named past t c.args.start.now.script next ls c.loop-i.records c.push.new.self i l r c.loop-i-test.true c.index-links-i.is on (c.loop-i.invariant.goes named past run leads is)
          (c.in_ok-record.ensures.record named past) added;
      numbers = all_next (λ (x : StepRecord). t.has x.number ≡ true) c.loop-i.records c.push.new.self r added c.loop-i.invariant.numbers c.in_ok-record.ensures.number;
      count = count_next c.loop-i.records c.push.new.self i r c.loop-i.invariant.count added;
      held = λ named past leads.
          let on = leads_at (next_of marlowe named past) ls c.args.end i l leads c.loop-i-test.true c.index-links-i.is ∙ sym c.goes_to-next.ensures in
          hold_next named past ls c.loop-i.records c.push.new.self i l r c.loop-i-test.true c.index-links-i.is c.loop-i.invariant.count added (c.loop-i.invariant.held named past leads)
          (c.in_ok-record.ensures.held named past on);
    }

pub returns-clause-carried : goal.returns-clause-carried
returns-clause-carried c = λ named past run leads is.
    let over : length c.args.links.now ≤ c.loop-i.i = omega (arith, c.loop-i-test.false) in
    none_left named past (terms_of c.args.published.now) c.args.start.now.script c.args.links.now c.loop-i.records c.loop-i.i over (c.loop-i.invariant.goes named past run leads is)
