use Rattle.analysis_values.proofs.known.Known.fresh.Goals as goal

pub returns-clause-symbols : goal.returns-clause-symbols
returns-clause-symbols c = rw (← c.self.view_is) c.fresh.ensures.any
