use Rattle.std.proofs.Common.{◌≡◌, ◌+◌, ◌*◌, ◌++◌, map, drop}
use Rattle.contract.specs.declared.tree.Contract.{size-Contract}
use Rattle.contract.specs.Tree.{contract_tree, case_tree, case_trees}
use Rattle.contract_notes.specs.Notes.{notes_of_cases}
use Rattle.contract_notes.proofs.walk.«+walk».Given as goal

-- what follows needs less than the whole
abbrev pub decreases-walk : goal.decreases-walk
decreases-walk l = 2 * goal.size-walk l

abbrev pub decreases-walk_on : goal.decreases-walk_on
decreases-walk_on l = 2 * size-Contract l.contract.now + 1

abbrev pub decreases-walk_cases : goal.decreases-walk_cases
decreases-walk_cases l = 2 * goal.size-walk_cases l + 1

-- the notes so far, and then those of the rest
abbrev pub invariant-walk_cases-loop-case : goal.invariant-walk_cases-loop-case
invariant-walk_cases-loop-case l =
    (l.index ≡ l.case-index)
    × (l.notes ++ notes_of_cases l.spot.state.now (contract_tree l.spot.root.now) l.spot.here.now l.case-index (case_trees (map case_tree (drop l.case-index l.case-items)))
    ≡ l.fn.notes ++ notes_of_cases l.spot.state.now (contract_tree l.spot.root.now) l.spot.here.now 0 (case_trees (map case_tree l.case-items)))
