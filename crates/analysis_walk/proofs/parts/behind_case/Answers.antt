use Rattle.std.proofs.Common.{sym}
use Rattle.analysis_walk.proofs.PlacesLemmas.{behind_at, behind_over}
use Rattle.analysis_walk.proofs.parts.behind_case.Goals as goal

pub returns-in-Some : goal.returns-in-Some
returns-in-Some c = sym (behind_at c.args.cases.now c.args.index c.in-Some.case.now c.in-Some.ensures.lookup.3.0 c.in-Some.ensures.lookup.1)

pub returns-in-None : goal.returns-in-None
returns-in-None c = sym (behind_over c.args.cases.now c.args.index c.in-None.ensures.lookup.3)
