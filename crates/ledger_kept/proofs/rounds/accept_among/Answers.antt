use Rattle.std.proofs.Common.{◌++◌, ◌∙◌, ap, arith, Option}
use Rattle.ledger_kept.specs.declared.tally.Waiting.{Waiting}
use Rattle.ledger_kept.specs.TallySupport.{entry_at}
use Rattle.ledger_kept.proofs.RoundLemmas.{place_next, places_end}
use Rattle.ledger_kept.proofs.rounds.accept_among.Goals as goal

pub loop-i-preserved : goal.loop-i-preserved
loop-i-preserved c = record {
  items =
      let old = c.loop-i.places.items in
      let v = c.index-verdicts-i.result in
      place_next c.args.pending.now c.args.verdicts.now c.loop-i.i v _ old c.accept_at.new.places.items c.loop-i-test.true c.index-verdicts-i.is
      (c.accept_at.ensures.items ∙ ap (λ (w : Option Waiting). old ++ entry_at w v) c.pending_at.ensures)
      c.loop-i.invariant.items;
  room = omega arith;
}

pub returns : goal.returns
returns c = record {
  ok = places_end c.args.pending.now c.args.verdicts.now c.loop-i.i _ c.loop-i.places.items c.loop-i-test.false c.loop-i.invariant.items;
  err = tt;
}
