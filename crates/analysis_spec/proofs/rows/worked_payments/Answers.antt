use Rattle.analysis_spec.proofs.RowsLemmas.{three_are_paid, two_are_too_few, four_are_too_many, refused_pays_nothing}
use Rattle.analysis_spec.proofs.rows.worked_payments.Goals as goal

pub returns-clause-paid : goal.returns-clause-paid
returns-clause-paid c = three_are_paid c.worked_reductions.ensures.partial

pub returns-clause-above : goal.returns-clause-above
returns-clause-above c = two_are_too_few c.worked_reductions.ensures.partial

pub returns-clause-below : goal.returns-clause-below
returns-clause-below c = four_are_too_many c.worked_reductions.ensures.partial

pub returns-clause-refused : goal.returns-clause-refused
returns-clause-refused c = refused_pays_nothing
