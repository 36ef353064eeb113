use Rattle.std.proofs.Common.{inl, inr, refl}
use Rattle.parties.specs.PlaysSupport.{call_of}
use Rattle.parties.proofs.PlaysLemmas.{noted}
use Rattle.parties.proofs.turns.noted.Goals as goal

pub returns-then-is_over-clause-ok : goal.returns-then-is_over-clause-ok
returns-then-is_over-clause-ok g c = inl (refl, refl)

pub returns-clause-ok : goal.returns-clause-ok
returns-clause-ok g c = inr (noted _ c.args.means.now.plan.now (call_of c.args.act) c.args.seat.now c.act.new.seat c.in_ok-told.told c.args.receipts.now.items c.reserve.new.self.items c.push_reserved.new.self.items c.in_ok-told.ensures.told (c.is_over.ensures c.if-is_over.false) c.reserve.ensures.items c.push_reserved.ensures.items)

pub returns-clause-made : goal.returns-clause-made
returns-clause-made g c = λ is. noted _ c.args.means.now.plan.now (call_of c.args.act) c.args.seat.now c.act.new.seat c.in_ok-told.told c.args.receipts.now.items c.reserve.new.self.items c.push_reserved.new.self.items c.in_ok-told.ensures.told (c.is_over.ensures c.if-is_over.false) c.reserve.ensures.items c.push_reserved.ensures.items
