use Rattle.json_write_contracts.proofs.AddsLaws.{then, wrote, refused, stopped, behind, left, failed}
use Rattle.json_write_outcomes.proofs.warnings.put_pay_warning.Goals as goal

pub returns-clause-put : goal.returns-clause-put
returns-clause-put c = behind _ _ c.end_with_three.result (wrote c.in_ok-begin_object.ensures) (behind _ _ c.end_with_three.result c.in_ok-put_member.ensures.put (behind _ _ c.end_with_three.result c.in_ok-put_member-2.ensures.put c.end_with_three.ensures.put))

pub returns-clause-err : goal.returns-clause-err
returns-clause-err c = left _ c.end_with_three.result (wrote c.in_ok-begin_object.ensures) (left _ c.end_with_three.result c.in_ok-put_member.ensures.put (left _ c.end_with_three.result c.in_ok-put_member-2.ensures.put c.end_with_three.ensures.err))

pub returns-in_err-begin_object-clause-err : goal.returns-in_err-begin_object-clause-err
returns-in_err-begin_object-clause-err c = failed c.from_residual.result (refused c.in_err-begin_object.ensures)

pub returns-in_err-put_member-clause-err : goal.returns-in_err-put_member-clause-err
returns-in_err-put_member-clause-err c = stopped c.from_residual-in_err-put_member.result (wrote c.in_ok-begin_object.ensures) c.in_err-put_member.ensures.err

pub returns-in_err-put_member-2-clause-err : goal.returns-in_err-put_member-2-clause-err
returns-in_err-put_member-2-clause-err c = stopped c.from_residual-in_err-put_member-2.result (then (wrote c.in_ok-begin_object.ensures) c.in_ok-put_member.ensures.put) c.in_err-put_member-2.ensures.err
