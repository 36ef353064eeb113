use Rattle.std.proofs.Common.{refl}
use Rattle.analysis_walk.proofs.FoundLemmas.{closed}
use Rattle.analysis_walk.proofs.found.Found.close.Goals as goal

pub returns-clause-found : goal.returns-clause-found
returns-clause-found c =
    let old = c.args.self.now in
    closed old (record { alarms = old.alarms; closings = c.add.new.self; unreached = old.unreached }) c.args.spans.now refl c.in_ok-add.ensures.count c.in_ok-add.ensures.rows
