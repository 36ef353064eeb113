use Rattle.std.proofs.Common.{◌+◌, ◌++◌, map, ap}
use Rattle.contract.specs.Tree.{case_tree, case_trees, contract_tree}
use Rattle.contract_notes.specs.Notes.{notes_of_cases}
use Rattle.contract_notes.proofs.CaseLemmas.{notes_more}
use Rattle.contract_notes.proofs.walk.+walk.Goals as goal

pub walk_cases-loop-case-preserved : goal.walk_cases-loop-case-preserved
walk_cases-loop-case-preserved t c =
    let cases = c.as_slice-case-items.result.now in
    let s = c.args.spot.state.now in
    let root = contract_tree c.args.spot.root.now in
    let here = c.args.spot.here.now in (
      ap (λ n. n + 1) c.loop-case.invariant.0,
      notes_more s root here cases c.loop-case.case-index c.loop-case.index c.case-item.result c.loop-case.notes c.note_action.new.notes c.walk_on.new.notes (c.args.notes.now ++ notes_of_cases s root here 0 (case_trees (map case_tree cases)))
          c.loop-case-test.true c.case-item.is c.loop-case.invariant.0 c.in_ok-note_action.ensures c.in_ok-walk_on.ensures c.loop-case.invariant.1,
    )
