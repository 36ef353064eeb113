use Rattle.std.proofs.Common.{rules, subst, ℤ}
use Rattle.std.proofs.lemmas.Int.{to_z-of_z}
use Rattle.hub.specs.Ledger.declared.call.Call.TheVariants as on
use Rattle.parties.specs.PlaysSupport.{AtMostNoted}
use Rattle.parties.proofs.PlaysLemmas.{noted_at_most, round_of_plan, advance_of_plan}
use Rattle.parties.proofs.party.perform.Goals as goal
use mir.Syntax.{w64}
use mir.Val.{SFits}

pub returns-in_ok-noted-in-Round-clause-ok : goal.returns-in_ok-noted-in-Round-clause-ok
returns-in_ok-noted-in-Round-clause-ok g c =
    let plan = c.args.means.now.plan.now in
    noted_at_most plan (on.Round c.in-Round.count) c.args.seat.now c.noted.new.seat c.args.receipts.now.items c.noted.new.receipts.items c.in_ok-noted-in-Round.ensures.ok (round_of_plan plan c.args.intent.now c.in-Round.count c.in-Round.workers c.requires.has c.in-Round.is)

pub returns-in_ok-noted-in-Advance-clause-ok : goal.returns-in_ok-noted-in-Advance-clause-ok
returns-in_ok-noted-in-Advance-clause-ok g c =
    let plan = c.args.means.now.plan.now in
    let tick : ℤ = c.in-Advance.tick in
    let fits : SFits w64 tick = search rules in
    let told = subst (λ (t : ℤ). AtMostNoted plan (on.Advance t) c.args.seat.now c.noted-in-Advance.new.seat c.args.receipts.now.items c.noted-in-Advance.new.receipts.items) (to_z-of_z w64 tick fits) c.in_ok-noted-in-Advance.ensures.ok in
    noted_at_most plan (on.Advance tick) c.args.seat.now c.noted-in-Advance.new.seat c.args.receipts.now.items c.noted-in-Advance.new.receipts.items told (advance_of_plan plan c.args.intent.now tick c.requires.has c.in-Advance.is)
