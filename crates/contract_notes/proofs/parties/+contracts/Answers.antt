use Rattle.std.proofs.Common.{◌++◌, map}
use Rattle.contract.specs.Tree.{case_tree, case_trees}
use Rattle.contract_notes.specs.Parties.{parties_by}
use Rattle.contract_notes.proofs.CaseLemmas.{named_more}
use Rattle.contract_notes.proofs.parties.+contracts.Goals as goal

pub add_by-loop-case-preserved : goal.add_by-loop-case-preserved
add_by-loop-case-preserved t c =
    let cases = c.as_slice-case-items.result.now in
    named_more cases c.loop-case.case-index c.case-item.result c.loop-case.named c.add_awaited.new.named c.add_named.new.named (c.args.named.now ++ parties_by (case_trees (map case_tree cases)))
    c.loop-case-test.true c.case-item.is c.in_ok-add_awaited.ensures c.in_ok-add_named.ensures c.loop-case.invariant
