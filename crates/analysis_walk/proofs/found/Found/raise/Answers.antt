use Rattle.std.proofs.Common.{ap, refl, ◌∙◌, ◌++◌}
use Rattle.analysis_walk.specs.Walked.{alarms_at}
use Rattle.analysis_walk.proofs.FoundLemmas.{raised}
use Rattle.analysis_walk.proofs.found.Found.raise.Goals as goal

pub returns-clause-found : goal.returns-clause-found
returns-clause-found c =
    let old = c.args.self.now in
    raised old (record { alarms = c.push_alarms.new.alarms; closings = old.closings; unreached = old.unreached }) c.args.place.now c.args.kinds.now (c.in_ok-push_alarms.ensures ∙ ap (λ ks. old.alarms ++ alarms_at c.args.place.now ks) c.as_slice.ensures) refl
