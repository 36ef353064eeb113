use Rattle.analysis_steps.proofs.ChosenLemmas.{wider_both}
use Rattle.analysis_steps.proofs.choices.wider.Goals as goal

pub returns-in-Some : goal.returns-in-Some
returns-in-Some c = λ n h. wider_both c.in-Some.old c.args.bound c.joined.result n c.joined.ensures.least c.joined.ensures.greatest (rw c.in-Some.is at h)
