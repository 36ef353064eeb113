use Rattle.alike_alarms.proofs.PartLemmas.{case_there, case_over}
use Rattle.alike_alarms.proofs.parts.case_at.Goals as goal

pub returns-in-Some : goal.returns-in-Some
returns-in-Some c = case_there c.args.cases.now c.args.index c.in-Some.case.now c.in-Some.ensures.lookup.3.0 c.in-Some.ensures.lookup.1

pub returns-in-None : goal.returns-in-None
returns-in-None c = case_over c.args.cases.now c.args.index c.in-None.ensures.lookup.3
