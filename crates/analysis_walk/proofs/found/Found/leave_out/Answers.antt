use Rattle.std.proofs.Common.{refl}
use Rattle.analysis_walk.proofs.FoundLemmas.{left_out}
use Rattle.analysis_walk.proofs.found.Found.leave_out.Goals as goal

pub returns-clause-found : goal.returns-clause-found
returns-clause-found c =
    let old = c.args.self.now in
    left_out old (record { alarms = old.alarms; closings = old.closings; unreached = c.push-2.new.self }) refl refl
