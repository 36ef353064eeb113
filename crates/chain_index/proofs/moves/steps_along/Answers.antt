use Rattle.std.proofs.Common.{◌-◌, ◌∙◌, sym, length, arith}
use Rattle.chain_index.specs.Moves.{along}
use Rattle.chain_index.proofs.MoveLemmas.{one_step, no_step, all_steps}
use Rattle.chain_index.proofs.moves.steps_along.Goals as goal

pub returns-in-None : goal.returns-in-None
returns-in-None c =
    no_step (length c.args.moves.now.entries - c.loop.counter) c.args.moves.now.entries c.loop.steps (along c.args.start c.args.moves.now.entries) c.loop.at (sym c.in-None.ensures) c.loop.invariant

pub loop-preserved : goal.loop-preserved
loop-preserved c =
    one_step c.args.moves.now.entries c.loop.counter c.loop.steps c.push.new.self c.loop.at c.in-Some.next c.in-Some.step (omega (arith, c.loop-test.true, c.len-end.ensures.len)) (sym c.in-Some.ensures)
    c.in_ok-push-in-Some.ensures.added
    ∙ c.loop.invariant

pub returns : goal.returns
returns c =
    all_steps c.loop.counter (length c.args.moves.now.entries) c.args.moves.now.entries c.loop.steps (along c.args.start c.args.moves.now.entries) c.loop.at (omega (arith, c.loop-test.false, c.len-end.ensures.len)) c.loop.invariant
