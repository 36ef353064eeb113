use Rattle.std.proofs.Common.{rules, FitsSigned}
use Rattle.std.specs.Int.{w128}
use Rattle.std.proofs.lemmas.Int.{to_z-of_z}
use Rattle.std.proofs.lemmas.Result.{on_ok_weaker}
use Rattle.symbols.proofs.QuotientLemmas.{learns_low, rest_none}
use Rattle.symbols.proofs.quotients.learn_low.Goals as goal

pub returns-in-Some : goal.returns-in-Some
returns-in-Some c =
    let f : FitsSigned w128 c.room_below-room.result = search rules in
    let i = rw (to_z-of_z w128 c.args.divisor c.ranges.divisor) at c.room_below-room.ensures in
    let s = rw (c.in-Some.is, to_z-of_z w128 c.room_below-room.result f) at c.in_ok-more.ensures in
    on_ok_weaker c.learn.result (λ h. learns_low c.args.symbols.now c.learn.new.self c.args.dividend.now c.args.rest.now c.in-Some.fact c.args.divisor c.room_below-room.result i s h) c.learn.ensures

pub returns-in-None : goal.returns-in-None
returns-in-None c = rest_none c.args.symbols.now c.args.dividend.now c.args.rest.now c.args.divisor
