use Rattle.std.proofs.Common.{map}
use Rattle.contract.specs.Tree.{case_tree, case_trees}
use Rattle.analysis_walk.specs.Found.{Finds, Nothing}
use Rattle.analysis_walk.specs.LeftOut.{LeavesOut, IsBehindCase}
use Rattle.analysis_walk.proofs.found.Found.leave_out_cases.Given as goal

abbrev pub invariant-loop-index : goal.invariant-loop-index
invariant-loop-index l =
    record {
      found : Finds Nothing l.fn.self l.self;
      unreached : LeavesOut (IsBehindCase l.place (case_trees (map case_tree l.cases)) (λ n path. Unit {0})) l.fn.self l.self;
    }
