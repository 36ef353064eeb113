use Rattle.std.proofs.Common.{◌-◌, ◌∙◌, sym, length, arith}
use Rattle.chain_index.proofs.MoveLemmas.{one_lead, no_lead, all_led}
use Rattle.chain_index.proofs.moves.end_along.Goals as goal

pub returns-in-None : goal.returns-in-None
returns-in-None c = no_lead (length c.args.moves.now.entries - c.loop.counter) c.args.moves.now.entries c.loop.at (sym c.in-None.ensures) ∙ c.loop.invariant

pub loop-preserved : goal.loop-preserved
loop-preserved c =
    one_lead c.args.moves.now.entries c.loop.counter c.loop.at c.in-Some.next c.in-Some.field-0-0 (omega (arith, c.loop-test.true, c.len-end.ensures.len)) (sym c.in-Some.ensures) ∙ c.loop.invariant

pub returns : goal.returns
returns c = all_led c.loop.counter (length c.args.moves.now.entries) c.args.moves.now.entries c.loop.at (omega (arith, c.loop-test.false, c.len-end.ensures.len)) ∙ c.loop.invariant
