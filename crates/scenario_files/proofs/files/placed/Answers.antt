use Rattle.std.proofs.Common.{rules, ◌≡◌, ◌≤◌, length}
use Rattle.scenario_files.proofs.FileLemmas.{placed_out, placed_over, placed_past}
use Rattle.scenario_files.proofs.files.placed.Goals as goal

pub returns-clause-ok : goal.returns-clause-ok
returns-clause-ok c = placed_over c.args.files.now c.args.texts.now c.loop-index.index _ _ c.loop-index-test.false c.loop-index.invariant
