use Rattle.analysis_walk.proofs.LeftOutLemmas.{one_left_out}
use Rattle.analysis_walk.proofs.found.Found.leave_out_cases.Goals as goal

pub loop-index-preserved : goal.loop-index-preserved
loop-index-preserved c = record {
  found = λ alarms range h. c.loop-index.invariant.found alarms range (c.in_ok-leave_out.ensures.found alarms range h).0;
  unreached =
      one_left_out c.args.place.now c.args.cases.now c.loop-index.index c.args.self.now c.loop-index.self c.leave_out.new.self c.loop-index-test.true c.loop-index.invariant.unreached c.in_ok-leave_out.ensures.unreached;
}
