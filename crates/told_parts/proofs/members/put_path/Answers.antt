use Rattle.std.proofs.Common.{refl}
use Rattle.json_write_contracts.proofs.AddsLaws.{wrote}
use Rattle.json_write_contracts.proofs.ListedLaws.{listed-at, closed}
use Rattle.told_parts.specs.Members.{step_json}
use Rattle.told_parts.proofs.members.put_path.Goals as goal

pub loop-step-preserved : goal.loop-step-preserved
loop-step-preserved c =
    listed-at _ step_json c.args.path.now c.loop-step.step-index c.begin_array.new.self c.loop-step.out c.put_step.new.out c.loop-step-test.true c.loop-step.invariant c.in_ok-put_step.ensures.put

pub returns-clause-put : goal.returns-clause-put
returns-clause-put c =
    closed step_json c.args.path.now c.args.path.now c.loop-step.step-index c.args.out.now c.begin_array.new.self c.loop-step.out c.end_array.new.self refl c.loop-step-test.false (wrote c.in_ok-begin_array.ensures)
    c.loop-step.invariant (wrote c.in_ok-end_array.ensures)
