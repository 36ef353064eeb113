use Rattle.analysis_values.proofs.evaluated.evaluate.Goals as goal

pub returns-clause-fits : goal.returns-clause-fits
returns-clause-fits c = rw (← c.known.view_is) c.in_ok-a.ensures.fits
