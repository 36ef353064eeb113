use Rattle.analysis_spec.proofs.RowsLemmas.{empty_pay_warns, refused_pay_warns, zero_pay_warns, zero_deposit_warns, second_let_warns, false_assert_warns, least_by_minus_one_leaves}
use Rattle.analysis_spec.proofs.rows.worked_warnings.Goals as goal

pub returns-clause-partial : goal.returns-clause-partial
returns-clause-partial c = empty_pay_warns c.worked_reductions.ensures.nothing

pub returns-clause-refused : goal.returns-clause-refused
returns-clause-refused c = refused_pay_warns

pub returns-clause-zero_pay : goal.returns-clause-zero_pay
returns-clause-zero_pay c = zero_pay_warns c.worked_reductions.ensures.zero

pub returns-clause-zero_deposit : goal.returns-clause-zero_deposit
returns-clause-zero_deposit c = zero_deposit_warns c.worked_inputs.ensures.deposit

pub returns-clause-shadowing : goal.returns-clause-shadowing
returns-clause-shadowing c = second_let_warns c.worked_reductions.ensures.shadowing

pub returns-clause-assertion : goal.returns-clause-assertion
returns-clause-assertion c = false_assert_warns c.worked_reductions.ensures.false_and

pub returns-clause-leaves_128 : goal.returns-clause-leaves_128
returns-clause-leaves_128 c = least_by_minus_one_leaves c.worked_reductions.ensures.least_refused
