use Rattle.std.proofs.Common.{◌≡◌, ◌++◌, take}
use Rattle.analysis_walk.specs.Walked.{alarms_at}
use Rattle.analysis_walk.proofs.found.push_alarms.Given as goal

abbrev pub invariant-loop-kind : goal.invariant-loop-kind
invariant-loop-kind l = l.alarms ≡ l.fn.alarms ++ alarms_at l.place (take l.kind-index l.kinds)
