use Rattle.std.proofs.Common.{rules, ◌≡◌, ◌≤◌, length}
use Rattle.scenario_files.proofs.FileLemmas.{fault_here, fault_out, fault_over, fault_past}
use Rattle.scenario_files.proofs.files.each_is_contract.Goals as goal

pub loop-index-preserved : goal.loop-index-preserved
loop-index-preserved c =
    fault_past c.args.files.now c.args.texts.now c.loop-index.index c.index-files-index.result c.index-texts-index.result c.loop-index-test.true (search rules) c.index-files-index.is c.index-texts-index.is c.args.depth _ c.loop-index.invariant c.in_ok-is_contract.ensures

pub returns : goal.returns
returns c = fault_over c.args.files.now c.args.texts.now c.loop-index.index c.args.depth _ c.loop-index-test.false c.loop-index.invariant
